-- The normal mixer's turn in a round of all parties is told behind the early entries, if of the proxies that aren't home it heard what the run foresees; and so are the late entries behind it.
use Rattle.std.proofs.Common.{◌≡◌, ⊎_elim, ℕ, ◌*◌, ◌<◌, ◌≤◌, Bool, true, false, if◌then◌else◌, map, List, [], ◌∷◌, ◌++◌, length, Option, Some, None, refl, sym, ap, subst, ◌∙◌, arith}
use Rattle.af_play_law.proofs.Common.{ClientEvent, Deeds, EntrySeen, FindsBlocks, Frame, GoOn, HasStateHistory, HasPipeHistory, IsLegal, Leads, LegalNormalTurn, LegalTurnBy, Links, Made, Marks, MatchBool, MatchOption, MixerState, NormalKept, NormalState, Outside, QueueKnown, RoundSeen, Run, SawOwnBy, Session, SessionState, Setup, ShowsFront, Tells, Turn, TurnFound, TurnMade, TurnPlayed, TurnShown, after_turn, answer_of, before_turn, cycle_frames, early_of, found_in, kept_of, late_of, length-map, packed_word, pipe_size, setup_of, turn_of, turned, with_calls, with_cycles, with_turn}
use Rattle.std.proofs.Math.Nat.{mul-le-mul_right}
use Rattle.af_base.specs.declared.event.ClientEvent.TheVariants as client
use Rattle.af_cblk.specs.declared.view.ClientPart.{ClientPart}
use Rattle.af_life.specs.Plays.{put_by}
use Rattle.af_normal.specs.State.{setup_of as mixer_setup}
use Rattle.af_told_law.specs.Leads.{Tells as TellsPushes}
use Rattle.af_play_law.specs.RoundPlayed.{PlayStands, RoundPlayed}
use Rattle.af_play_law.proofs.Words.{HearsForeseen}
use Rattle.af_play_law.proofs.BeforeTurn.{cycles_commands}
use Rattle.af_play_law.proofs.Cycled.{CyclesAre}
use Rattle.af_play_law.proofs.CyclesTold.{AllShown, CyclesTold, cycles_told, go_none, same_after}
use Rattle.af_play_law.proofs.OneCycle.{MayCycle}
use Rattle.af_play_law.proofs.PollsShown.{all_late, late_shown}
use Rattle.af_play_law.proofs.RoundCycles.{cycles, early, first_is, grown_end, grown_half, grows_is, half, halfway, known_half, late, late_start, later, order_half, parts, saw_half, stands_half, together_turned}
use Rattle.af_play_law.proofs.RoundPipe.{room_front}
use Rattle.af_play_law.proofs.RoundTurn.{TurnLeft, turn_left, unread}
use Rattle.af_play_law.proofs.TurnApart.{told_marked}

module _ (links : Links) (s : Session) (run : Run) (d : Deeds) (x u z : SessionState) (bytes : List ℕ) (round : RoundSeen) (stands : PlayStands s run d x) (w : RoundPlayed links s x u z bytes round) where
  abbrev f : MixerState
  f = half links s run d x u z bytes round stands w

  abbrev between : SessionState
  between = halfway links s run d x u z bytes round stands w

  abbrev told_early : CyclesTold links s (with_calls round run) d (record x { clients = u.clients }) (early_of run round) f
  told_early = early links s run d x u z bytes round stands w

  abbrev n : NormalState
  n = u.normal

  abbrev e : Turn
  e = turn_of n.entry

  abbrev before : Run
  before = before_turn s run round

  abbrev found : TurnFound
  found = found_in s run round e

  -- ## What is shown of the turn

  few : pipe_size (setup_of s) ≤ 65536
  few =
      let sizes = w.before.normal.tied.sizes in
      let c : Setup = mixer_setup x.normal in
      let same : pipe_size c ≡ pipe_size (setup_of s) = ap pipe_size stands.told.normal.setup in
      let most : c.normal * c.frames ≤ 16 * c.frames = mul-le-mul_right c.frames sizes.normal.1 in
      let frames = sizes.frames.1 in
      omega (arith, same, most, frames)

  size_is : z.fast.pipe.pass.part.shape.frames ≡ pipe_size (setup_of s)
  size_is =
      ap (λ (m : MixerState). m.pipe.pass.part.shape.frames) w.meets.ends.fast
      ∙ ap (λ (m : Made). m.shape.frames) (w.turned.fast.1.pipe_is ∙ sym w.before.fast.1.pipe_is) ∙ stands.told.shared.size

  pub front_shown : (o : Outside) → IsLegal o x.normal n → ShowsFront (setup_of s) x.normal n e
  front_shown o legal front events =
      let part : ClientPart = x.normal.pipe.pass.part in
      let put : List Frame = put_by (setup_of s) e.mixes in
      let words : z.normal.pipe.pass.part.frames ≡ part.frames ++ map packed_word put =
      ap (λ (m : NormalState). m.pipe.pass.part.frames) w.meets.ends.normal ∙ legal.lists.pipe.3 ∙ ap (λ (c : Setup). part.frames ++ map packed_word (put_by c e.mixes)) stands.told.normal.setup in
      let list : z.normal.pipe.pass.part.events ≡ n.pipe.pass.part.events ++ client.Learn (length u.fast.pipe.pass.part.events) ∷ [] = ap (λ (m : NormalState). m.pipe.pass.part.events) w.meets.ends.normal in
      let history = subst (λ (q : ℕ × List ClientEvent × List ℕ). HasPipeHistory q.0 q.1 q.2 z.fast.pipe.pass.part.events z.fast.pipe.pass.part.frames) (λ i. (size_is i, list i, words i)) w.meets.ends.histories.pipe in
      room_front (pipe_size (setup_of s)) few part.events n.pipe.pass.part.events front part.shape.cells (length put) (length u.fast.pipe.pass.part.events) part.frames (map packed_word put) z.fast.pipe.pass.part.frames z.fast.pipe.pass.part.events events (length-map put packed_word) history

  pub finds : FindsBlocks before found
  finds = record { streams = (λ i. refl); commands = (λ i. sym (cycles_commands s (early_of run round) (with_calls round run) i)) }

  -- ## What the turn leaves

  -- the servers' lists, what is so before the late entries, that the turn is legal, and what is known of the queue
  pub record TurnTold : Type 0 where
    pub deeds : Deeds
    pub goes : GoOn told_early.deeds deeds
    pub may : MayCycle links s (after_turn s run round) deeds (unread between n)
    pub legal : (marks : Marks) → SawOwnBy marks before deeds → LegalNormalTurn s marks run round
    pub known : QueueKnown (cycle_frames s) (after_turn s run round) n
    pub tells : TellsPushes n.mutator.past
    pub leads : Leads f.observer.past.state (kept_of n)
    pub same : 0 < n.mutator.past.number → f.observer.past.number ≡ n.mutator.past.number → f.observer.past.state ≡ n.mutator.past.last

  -- a mixer that has ended makes no turn
  module _ (over : x.normal.ended ≡ true) (still : n ≡ x.normal) where
    no_turn : round.turn ≡ None
    no_turn = w.notes.turn ∙ ap (λ (b : Bool). if b then None else Some (turn_of n.entry)) over

    run_still : before ≡ after_turn s run round
    run_still = ap (λ (o : Option Turn). turned s (found_in s run round) o before) (sym no_turn)

    turn_still : TurnTold
    turn_still = record {
      deeds = told_early.deeds;
      goes = go_none told_early.deeds;
      may = subst (λ (q : Run × NormalState). MayCycle links s q.0 told_early.deeds (unread between q.1)) (λ j. (run_still j, sym still j)) told_early.may;
      legal = (λ marks saw. subst (λ (b : Bool). MatchBool b (round.turn ≡ None) (MatchOption round.turn ⊥ (λ t. LegalTurnBy (setup_of s) marks (found_in s run round t) run.normal t))) (sym (sym (ap (λ (k : NormalKept). k.ended) stands.told.normal.kept) ∙ over)) no_turn);
      known = subst (λ (q : Run × NormalState). QueueKnown (cycle_frames s) q.0 q.1) (λ j. (run_still j, sym still j)) (known_half links s run d x u z bytes round stands w);
      tells = subst (λ (m : NormalState). TellsPushes m.mutator.past) (sym still) stands.stands.step.tells;
      leads = subst (λ (m : NormalState). Leads f.observer.past.state (kept_of m)) (sym still) (stands_half links s run d x u z bytes round stands w).leads;
      same = subst (λ (m : NormalState). 0 < m.mutator.past.number → f.observer.past.number ≡ m.mutator.past.number → f.observer.past.state ≡ m.mutator.past.last) (sym still) (stands_half links s run d x u z bytes round stands w).step.same;
    }

  -- a mixer that hasn't ended makes one turn
  module _ (lives : x.normal.ended ≡ false) (o : Outside) (legal : IsLegal o x.normal n) (made : TurnMade (answer_of (turn_of n.entry)) x.normal n) (hears : HearsForeseen s run x u round) where
    one_turn : round.turn ≡ Some e
    one_turn = w.notes.turn ∙ ap (λ (b : Bool). if b then None else Some (turn_of n.entry)) lives

    abbrev shown : TurnShown s before between n o found
    shown = record {
      finds = finds;
      hears = hears o legal;
      polled = (later links s run d x u z bytes round stands w).known_polls;
      pushed = (later links s run d x u z bytes round stands w).known_pushes;
      later = (later links s run d x u z bytes round stands w).history;
      front = front_shown o legal;
    }

    left : TurnLeft links s before told_early.deeds between n found
    left = turn_left links s before told_early.deeds between n o found told_early.may (stands_half links s run d x u z bytes round stands w) (together_turned links s run d x u z bytes round stands w) legal made shown
        (known_half links s run d x u z bytes round stands w) lives stands.cells (saw_half links s run d x u z bytes round stands w)

    run_turned : with_turn s found e before ≡ after_turn s run round
    run_turned = ap (λ (o : Option Turn). turned s (found_in s run round) o before) (sym one_turn)

    -- the turn doesn't see what the clients and the early entries leave of the mixer
    same_kept : before.normal ≡ run.normal
    same_kept = sym told_early.may.told.normal.kept ∙ stands.told.normal.kept

    turn_made : TurnTold
    turn_made = record {
      deeds = left.deeds;
      goes = left.goes;
      may = subst (λ (q : Run). MayCycle links s q left.deeds (unread between n)) run_turned left.may;
      legal = (λ marks saw.
          let is : LegalTurnBy (setup_of s) marks found run.normal e = subst (λ (k : NormalKept). LegalTurnBy (setup_of s) marks found k e) same_kept (left.legal marks saw) in
          let ended : run.normal.ended ≡ false = sym (ap (λ (k : NormalKept). k.ended) stands.told.normal.kept) ∙ lives in
          subst (λ (b : Bool). MatchBool b (round.turn ≡ None) (MatchOption round.turn ⊥ (λ t. LegalTurnBy (setup_of s) marks (found_in s run round t) run.normal t))) (sym ended)
          (subst (λ (o : Option Turn). MatchOption o ⊥ (λ t. LegalTurnBy (setup_of s) marks (found_in s run round t) run.normal t)) (sym one_turn) is));
      known = subst (λ (q : Run). QueueKnown (cycle_frames s) q n) run_turned left.known;
      tells = left.tells;
      leads = left.leads;
      same = left.same;
    }

  module _ (hears : HearsForeseen s run x u round) where
    turn_by : (b : Bool) → x.normal.ended ≡ b → MatchBool b (n ≡ x.normal) (TurnPlayed x.normal n) → TurnTold
    turn_by true over still = turn_still over still
    turn_by false lives played = turn_made lives played.0 played.1 played.2 hears

    pub turn_told : TurnTold
    turn_told = turn_by x.normal.ended refl w.plays.normal

    -- ## The late entries

    none_shown : (m : NormalState) (es : List EntrySeen) (a b : MixerState) (c : CyclesAre links es a b) → es ≡ [] → AllShown links m es a b c
    none_shown m [] a b c is = tt
    none_shown m (t ∷ es) a b c is = absurd (let long : length (t ∷ es) ≡ 0 = ap (λ (l : List EntrySeen). length l) is in omega (arith, long))

    shown_late : AllShown links (record n { reader = x.normal.reader }) (late_of run round) f (cycles links s run d x u z bytes round stands w).last (parts links s run d x u z bytes round stands w).back
    shown_late = ⊎_elim
        (λ (none : late_of run round ≡ []). none_shown (record n { reader = x.normal.reader }) (late_of run round) f (cycles links s run d x u z bytes round stands w).last (parts links s run d x u z bytes round stands w).back none)
        (λ (h : HasStateHistory x.normal.mutator.past.first n.mutator.past.events f.observer.past.events).
        late_shown links x u z w.meets.ends stands.stands (first_is links s run d x u z bytes round stands w) (grows_is links s run d x u z bytes round stands w) x.normal.reader turn_told.tells
        (late_of run round) f (cycles links s run d x u z bytes round stands w).last (parts links s run d x u z bytes round stands w).back
        (order_half links s run d x u z bytes round stands w) (grown_half links s run d x u z bytes round stands w) (grown_end links s run d x u z bytes round stands w) h
        (all_late links x.normal.mutator.past.number (late_of run round) f (cycles links s run d x u z bytes round stands w).last (parts links s run d x u z bytes round stands w).back (late links s run d x u z bytes round stands w)))
        (late_start links s run d x u z bytes round stands w)

    pub late_told : CyclesTold links s (after_turn s run round) turn_told.deeds (unread between n) (late_of run round) (cycles links s run d x u z bytes round stands w).last
    late_told = cycles_told links s (late_of run round) (after_turn s run round) turn_told.deeds (unread between n) (cycles links s run d x u z bytes round stands w).last turn_told.may (parts links s run d x u z bytes round stands w).back shown_late

    -- the run with all entries tells the session but for the load
    abbrev pub unloaded : SessionState
    unloaded = record u { normal = record n { reader = x.normal.reader } }

    pub told_unloaded : Tells s (with_cycles s (late_of run round) (after_turn s run round)) late_told.deeds unloaded
    told_unloaded = subst (λ (m : MixerState). Tells s (with_cycles s (late_of run round) (after_turn s run round)) late_told.deeds (record unloaded { fast = m })) (sym (cycles links s run d x u z bytes round stands w).ends)
        (told_marked s (with_cycles s (late_of run round) (after_turn s run round)) late_told.deeds (record unloaded { fast = (cycles links s run d x u z bytes round stands w).last }) u.fast.adopted late_told.may.told)

    -- the fast mixer has polled no state but the last one of the queue, once it has as many
    pub same_end : 0 < n.mutator.past.number → u.fast.observer.past.number ≡ n.mutator.past.number → u.fast.observer.past.state ≡ n.mutator.past.last
    same_end = subst (λ (m : MixerState). 0 < n.mutator.past.number → m.observer.past.number ≡ n.mutator.past.number → m.observer.past.state ≡ n.mutator.past.last) (sym (cycles links s run d x u z bytes round stands w).ends)
        (same_after links (record n { reader = x.normal.reader }) (late_of run round) f (cycles links s run d x u z bytes round stands w).last (parts links s run d x u z bytes round stands w).back shown_late turn_told.same)
