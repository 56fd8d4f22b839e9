-- What the meetings after a turn of the normal mixer show of it, if the run told before it is what it found: the report is the last one stored, the ends of the queue have a history just behind it, and its room tells the front of the pipe.
use Rattle.std.proofs.Common.{◌≡◌, ℕ, ◌*◌, ◌≤◌, Bool, true, false, if◌then◌else◌, map, List, [], ◌∷◌, ◌++◌, length, refl, sym, ap, subst, ◌∙◌, append_assoc, arith}
use Rattle.af_render_law.proofs.Common.{AreTogether, ClientEvent, ClientPart, Deeds, FastState, Frame, HasStateHistory, HearsFound, IsLegal, Links, Load, Met, MixerState, NormalState, Outside, ReportMet, Run, Session, SessionState, Setup, ShowsFront, Tells, Turn, TurnFound, TurnMade, TurnShown, after_ack, answer_of, found_before, going, kept_of, length-map, pipe_size, put_by, report_of, setup_of, turn_of}
use Rattle.std.proofs.Math.Nat.{mul-le-mul_right}
use Rattle.af_base.specs.declared.event.ClientEvent.TheVariants as client
use Rattle.af_base.specs.Sample.{packed_word}
use Rattle.af_link.specs.Reports.{ReaderSide, WriterSide}
use Rattle.af_model.specs.declared.newest.ReaderEvent.TheVariants as reads
use Rattle.af_model.specs.declared.newest.WriterEvent.TheVariants as writes
use Rattle.af_model.specs.declared.states.MutatorEvent.TheVariants as mutator
use Rattle.af_model.specs.declared.states.ObserverEvent.TheVariants as observer
use Rattle.af_model.specs.NewestValue as newest
use Rattle.af_model.specs.PipeHistory.{HasPipeHistory, releases_of}
use Rattle.af_model.specs.Reports.{no_report}
use Rattle.af_normal.specs.State.{setup_of as mixer_setup}
use Rattle.af_told_law.proofs.Places.{StreamsGo, StreamsStay}
use Rattle.af_told_law.proofs.NormalGoes.{turn_leaves}
use Rattle.af_told_law.proofs.ReportSeen.{cycle_is, heard_found, loaded_is, number_is}
use Rattle.af_told_law.proofs.TurnPipe.{front_told}

module _ (s : Session) (run : Run) {d : Deeds} (x : SessionState) (n : NormalState) (z : SessionState) (links : Links) (o : Outside) (together : AreTogether links x) (told : Tells s run d x) (met_last : ReportMet run) (legal : IsLegal o x.normal n)
    (made : TurnMade (answer_of (turn_of n.entry)) x.normal n) (meets : Met (record x { normal = n }) z) where
  abbrev e : Turn
  e = turn_of n.entry

  abbrev f : TurnFound
  f = found_before s run [] e

  -- ## The report

  abbrev stored : ℕ
  stored = length x.fast.writer.events

  abbrev loads : ℕ
  loads = length n.reader.events

  reports : newest.HasValueHistory no_report (x.fast.writer.events ++ writes.Learn (length n.reader.events) ∷ []) (n.reader.events ++ reads.Learn (length x.fast.writer.events) ∷ [])
  reports = subst (λ (q : WriterSide × ReaderSide). newest.HasValueHistory no_report q.0.events q.1.events) (λ i. (ap (λ (m : MixerState). m.writer) meets.ends.fast i, ap (λ (m : NormalState). m.reader) meets.ends.normal i)) meets.ends.histories.report

  reads_one : e.ended ≡ false → n.reader.events ≡ x.normal.reader.events ++ Load legal.lists.reader.0 o.report ∷ []
  reads_one goes = legal.lists.reader.1 ∙ ap (λ (b : Bool). x.normal.reader.events ++ (if b then [] else Load legal.lists.reader.0 o.report ∷ [])) goes

  hears : HearsFound x.normal n o f
  hears goes = heard_found s run x n links together told met_last stored loads reports legal.lists.reader.0 o.report (reads_one goes) (after_ack e.ack (kept_of x.normal)).tracks e.cycle (legal.legal.goes_on goes).report

  -- the load is that of the last report stored
  pub load_is : n.reader.events ≡ x.normal.reader.events ++ going e (Load e.cycle (report_of run.reports e.cycle) ∷ [])
  load_is = by_end e.ended refl
    where
      by_end : (b : Bool) → e.ended ≡ b → n.reader.events ≡ x.normal.reader.events ++ going e (Load e.cycle (report_of run.reports e.cycle) ∷ [])
      by_end true over =
          legal.lists.reader.1 ∙ ap (λ (b : Bool). x.normal.reader.events ++ (if b then [] else Load legal.lists.reader.0 o.report ∷ [])) over
          ∙ ap (λ (b : Bool). x.normal.reader.events ++ (if b then [] else Load e.cycle (report_of run.reports e.cycle) ∷ [])) (sym over)
      by_end false goes =
          let k : ℕ = legal.lists.reader.0 in
          let cycle : e.cycle ≡ length run.entries = (legal.legal.goes_on goes).report ∙ cycle_is s run x n links together told met_last stored loads reports k o.report (reads_one goes) in
          let number : k ≡ e.cycle = number_is s run x n links together told met_last stored loads reports k o.report (reads_one goes) ∙ sym cycle in
          let report : o.report ≡ report_of run.reports e.cycle = loaded_is s run x n links together told met_last stored loads reports k o.report (reads_one goes) ∙ ap (report_of run.reports) (sym cycle) in
          reads_one goes ∙ (λ i. x.normal.reader.events ++ Load (number i) (report i) ∷ [])
          ∙ ap (λ (b : Bool). x.normal.reader.events ++ (if b then [] else Load e.cycle (report_of run.reports e.cycle) ∷ [])) (sym goes)

  -- ## The queue

  abbrev polled : ℕ
  polled = length x.fast.observer.past.events

  abbrev pushed : ℕ
  pushed = length n.mutator.past.events

  first : n.mutator.past.first ≡ x.normal.mutator.past.first
  first = by_end e.ended refl
    where
      leaves : (e.ended ≡ false → StreamsGo o x.normal n e) × (e.ended ≡ true → StreamsStay o x.normal n e)
      leaves = turn_leaves links o x.normal n together.normal legal made

      by_end : (b : Bool) → e.ended ≡ b → n.mutator.past.first ≡ x.normal.mutator.past.first
      by_end false goes = (leaves.0 goes).queue.first
      by_end true over = (leaves.1 over).first

  later : HasStateHistory x.normal.mutator.past.first (n.mutator.past.events ++ mutator.Learn (length x.fast.observer.past.events) ∷ []) (x.fast.observer.past.events ++ observer.Learn (length n.mutator.past.events) ∷ [])
  later = subst (λ (y : FastState). HasStateHistory y (n.mutator.past.events ++ mutator.Learn polled ∷ []) (x.fast.observer.past.events ++ observer.Learn pushed ∷ [])) first
      (subst (λ (w : NormalState × MixerState). HasStateHistory w.0.mutator.past.first w.0.mutator.past.events w.1.observer.past.events) (λ j. (meets.ends.normal j, meets.ends.fast j)) meets.ends.histories.queue)

  -- ## The pipe

  few : pipe_size (setup_of s) ≤ 65536
  few =
      let sizes = together.normal.tied.sizes in
      let c : Setup = mixer_setup x.normal in
      let same : pipe_size c ≡ pipe_size (setup_of s) = ap pipe_size told.normal.setup in
      let most : c.normal * c.frames ≤ 16 * c.frames = mul-le-mul_right c.frames sizes.normal.1 in
      let frames = sizes.frames.1 in
      omega (arith, same, most, frames)

  front_shown : ShowsFront (setup_of s) x.normal n e
  front_shown front events =
      let part : ClientPart = x.normal.pipe.pass.part in
      let put : List Frame = put_by (setup_of s) e.mixes in
      let all : z.normal.pipe.pass.part.events ≡ part.events ++ client.SawFront front ∷ (releases_of part.shape.cells (length part.frames) (length put) ++ client.Learn (length x.fast.pipe.pass.part.events) ∷ []) =
      ap (λ (m : NormalState). m.pipe.pass.part.events) meets.ends.normal ∙ ap (λ (l : List ClientEvent). l ++ client.Learn (length x.fast.pipe.pass.part.events) ∷ []) events
      ∙ append_assoc part.events (client.SawFront front ∷ releases_of part.shape.cells (length part.frames) (length put)) (client.Learn (length x.fast.pipe.pass.part.events) ∷ []) in
      let words : z.normal.pipe.pass.part.frames ≡ part.frames ++ map packed_word put =
      ap (λ (m : NormalState). m.pipe.pass.part.frames) meets.ends.normal ∙ legal.lists.pipe.3 ∙ ap (λ (c : Setup). part.frames ++ map packed_word (put_by c e.mixes)) told.normal.setup in
      let size : z.fast.pipe.pass.part.shape.frames ≡ pipe_size (setup_of s) = ap (λ (m : MixerState). m.pipe.pass.part.shape.frames) meets.ends.fast ∙ told.shared.size in
      let history = subst (λ (q : ℕ × List ClientEvent × List ℕ). HasPipeHistory q.0 q.1 q.2 z.fast.pipe.pass.part.events z.fast.pipe.pass.part.frames) (λ i. (size i, all i, words i)) meets.ends.histories.pipe in
      front_told (pipe_size (setup_of s)) few part.events front part.shape.cells (length put) (length x.fast.pipe.pass.part.events) part.frames (map packed_word put) z.fast.pipe.pass.part.frames z.fast.pipe.pass.part.events (length-map put packed_word) history

  -- ## All that the meetings show

  pub turn_shown : TurnShown s run x n o f
  turn_shown = record { finds = record { streams = (λ i. refl); commands = (λ i. refl) }; hears = hears; polled = polled; pushed = pushed; later = later; front = front_shown }
