-- After a turn of the normal mixer the run with this turn tells the ends of the queue, the report and the pipe, and the two mixers.
use Rattle.std.proofs.Common.{Bool, List, [], ap, false, if◌then◌else◌, length, map, refl, subst, sym, true, true≢false, ℕ, ⊎_elim, ◌++◌, ◌∙◌, ◌∷◌, ◌≡◌, ◌⊎◌}
use Rattle.af_told_law.proofs.Common.{ClientEvent, ClientPart, Frame, IsLegal, NormalState, Outside, Run, Session, SessionState, Setup, Turn, front_by_room, going, ones, packed_word, pipe_cells, pipe_list, pipe_size, pipe_turned, put_by, releases_of, room_by, turn_of, twos}
use Rattle.af_base.specs.declared.event.ClientEvent.TheVariants as client
use Rattle.af_runs.specs.Sessions.{setup_of}
use Rattle.af_told_law.specs.Tells.{Tells}
use Rattle.af_told_law.specs.NormalLaws.{ShowsFront}
use Rattle.af_told_law.specs.Deeds.{Deeds}
use Rattle.af_judge.proofs.QueueSteps.{ones_more, twos_stay}

-- ## The pipe

module _ (s : Session) (run : Run) {d : Deeds} (x : SessionState) (n : NormalState) (o : Outside) (told : Tells s run d x) (legal : IsLegal o x.normal n) (front : ShowsFront (setup_of s) x.normal n (turn_of n.entry))
    (cells : x.normal.pipe.pass.part.shape.cells ≡ pipe_cells (setup_of s)) where
  abbrev e : Turn
  e = turn_of n.entry

  abbrev c : Setup
  c = setup_of s

  abbrev part : ClientPart
  part = x.normal.pipe.pass.part

  abbrev put : List Frame
  put = put_by c e.mixes

  grows : (front : ℕ) × (n.pipe.pass.part.events ≡ part.events ++ going e (client.SawFront front ∷ releases_of part.shape.cells (length part.frames) (length put))) × ((e.room ≡ room_by (pipe_size c) (length part.frames) front) ⊎ (e.ended ≡ true)) × (n.pipe.pass.part.frames ≡ part.frames ++ map packed_word put)
  grows = subst (λ (d : Setup). (front : ℕ) × (n.pipe.pass.part.events ≡ part.events ++ going e (client.SawFront front ∷ releases_of part.shape.cells (length part.frames) (length (put_by d e.mixes)))) × ((e.room ≡ room_by (pipe_size d) (length part.frames) front) ⊎ (e.ended ≡ true))
      × (n.pipe.pass.part.frames ≡ part.frames ++ map packed_word (put_by d e.mixes))) told.normal.setup legal.lists.pipe

  -- the pipe's list of a turn that went on is the one told
  list_runs : e.ended ≡ false → n.pipe.pass.part.events ≡ part.events ++ pipe_list c (pipe_cells c) (length run.pipe.put) e
  list_runs runs =
      let seen_front : ℕ = grows.0 in
      let many : length part.frames ≡ length run.pipe.put = ap (λ (l : List ℕ). length l) told.shared.puts.words in
      let events : n.pipe.pass.part.events ≡ part.events ++ client.SawFront seen_front ∷ releases_of part.shape.cells (length part.frames) (length put) =
      grows.1 ∙ ap (λ (b : Bool). part.events ++ (if b then [] else client.SawFront seen_front ∷ releases_of part.shape.cells (length part.frames) (length put))) runs in
      let room : e.room ≡ room_by (pipe_size c) (length part.frames) seen_front = ⊎_elim (λ is. is) (λ over. absurd (true≢false (sym over ∙ runs))) grows.2 in
      let seen : seen_front ≡ front_by_room (pipe_size c) (length run.pipe.put) e.room = sym (front seen_front events) ∙ (λ i. front_by_room (pipe_size c) (many i) (sym room i)) in
      events
      ∙ (λ i. part.events ++ client.SawFront (seen i) ∷ releases_of (cells i) (many i) (length put))
      ∙ ap (λ (b : Bool). part.events ++ (if b then [] else client.SawFront (front_by_room (pipe_size c) (length run.pipe.put) e.room) ∷ releases_of (pipe_cells c) (length run.pipe.put) (length put))) (sym runs)

  list_told : n.pipe.pass.part.events ≡ part.events ++ pipe_list c (pipe_cells c) (length run.pipe.put) e
  list_told = by_end e.ended refl
    where
      by_end : (b : Bool) → e.ended ≡ b → n.pipe.pass.part.events ≡ part.events ++ pipe_list c (pipe_cells c) (length run.pipe.put) e
      by_end false runs = list_runs runs
      by_end true over =
          grows.1 ∙ ap (λ (b : Bool). part.events ++ (if b then [] else client.SawFront grows.0 ∷ releases_of part.shape.cells (length part.frames) (length put))) over
          ∙ ap (λ (b : Bool). part.events ++ (if b then [] else client.SawFront (front_by_room (pipe_size c) (length run.pipe.put) e.room) ∷ releases_of (pipe_cells c) (length run.pipe.put) (length put))) (sym over)

  -- what was put into the pipe is told
  pub pipe_puts : (none : e.ended ≡ true → put ≡ []) → (n.pipe.pass.part.events ≡ ones (pipe_turned c e run.pipe).told) × (n.pipe.pass.part.frames ≡ (pipe_turned c e run.pipe).put)
  pipe_puts none = (
    list_told ∙ ap (λ (l : List ClientEvent). l ++ pipe_list c (pipe_cells c) (length run.pipe.put) e) told.shared.puts.told ∙ sym (ones_more run.pipe.told (pipe_list c (pipe_cells c) (length run.pipe.put) e)),
    grows.3 ∙ ap (λ (l : List ℕ). l ++ map packed_word put) told.shared.puts.words ∙ ap (λ (l : List ℕ). run.pipe.put ++ l) (by_end e.ended refl),
  )
    where
      by_end : (b : Bool) → e.ended ≡ b → map packed_word put ≡ going e (map packed_word put)
      by_end true over = ap (map packed_word) (none over) ∙ ap (λ (b : Bool). if b then [] else map packed_word put) (sym over)
      by_end false runs = ap (λ (b : Bool). if b then [] else map packed_word put) (sym runs)

  pub pipe_takes : twos (pipe_turned c e run.pipe).told ≡ twos run.pipe.told
  pipe_takes = twos_stay run.pipe.told (pipe_list c (pipe_cells c) (length run.pipe.put) e)
