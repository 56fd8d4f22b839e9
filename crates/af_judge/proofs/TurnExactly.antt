-- A turn is right as it is judged exactly if it is legal by what it found.
use Rattle.std.proofs.Common.{◌≡◌, ◌↔◌, ℕ, ◌+◌, ◌^◌, ◌<◌, ◌≤◌, nat_lt, Bool, true, false, true≢false, MatchBool, cond, refl, sym, ap, ◌∙◌, subst, List, [], ◌∷◌, length, eq-eqb, arith}
use Rattle.af_judge.proofs.Common.{AllByRecursion, GoesOn, LegalTake, LegalTurn, LegalTurnBy, Listed, LooksBy, Marks, NormalKept, Outside, Setup, SlotEntry, TakeSeen, TrackSeen, TracksRise, Turn, TurnFound, asked, ended_turn, ends_now, get_or-eq_default, lawful_front, less_differs, listed, nat_tests, nothing_seen, outside_of, outside_with, take_front, takes_from, track_in}
use Rattle.af_judge.specs.Servers.{front_judged}
use Rattle.af_judge.specs.NormalLooks.{AllAnswer}
use Rattle.af_judge.proofs.Words.{BlocksFound, TakeAnswers, TurnAnswers, IsRightTurn}
use Rattle.af_judge.proofs.LooksExactly.{LegalBy, looks_exactly, judged_so, rightly}

-- ## The first take of a track, if the tracks of takes rise

-- the takes of a track are the first one, if it is the track's, and those of the rest
pub first_of : (t : TakeSeen) (rest : List TakeSeen) → takes_from (t ∷ rest) t.track ≡ t ∷ takes_from rest t.track
first_of t rest = ap (λ (b : Bool). cond b (t ∷ takes_from rest t.track) (takes_from rest t.track)) (eq-eqb t.track t.track refl)

pub others_of : (t : TakeSeen) (rest : List TakeSeen) (n : ℕ) → t.track < n → takes_from (t ∷ rest) n ≡ takes_from rest n
others_of t rest n lt = ap (λ (b : Bool). cond b (t ∷ takes_from rest n) (takes_from rest n)) (less_differs t.track n lt)

module _ (front : Listed → SlotEntry → ℕ) where
  pub first_front : (s : Listed) (t : TakeSeen) (all rest : List TakeSeen) → takes_from all t.track ≡ takes_from (t ∷ rest) t.track → take_front front s (takes_from all t.track) ≡ front s t.slot
  first_front s t all rest same = ap (take_front front s) (same ∙ first_of t rest)

-- the takes from one on, of those that are there
module _ (c : Setup) (o : Outside) (b : BlocksFound) (all : List TakeSeen)
    (streams : (i : ℕ) → o.streams i ≡ b.streams i)
  where
    -- each is legal, if the fronts are those by which it is judged
    takes_legal : (wraps : (i : ℕ) → (b.streams i).shape.wrap ≤ 2 ^ 31) (fronts : (i : ℕ) → o.stream_front i ≡ take_front (front_judged (b.lawful_streams i) (asked c)) (b.streams i) (takes_from all i)) (low : ℕ) (takes : List TakeSeen) → TracksRise low takes
        → ((n : ℕ) → low ≤ n → takes_from all n ≡ takes_from takes n) → AllByRecursion (TakeAnswers c b) takes → AllByRecursion (LegalTake c o) takes
    takes_legal wraps fronts low [] rise same h = tt
    takes_legal wraps fronts low (t ∷ takes) rise same h = (
      record {
        looks = subst (λ (f : ℕ). LooksBy (asked c) (o.streams t.track) t.slot f)
            (sym (fronts t.track ∙ first_front (front_judged (b.lawful_streams t.track) (asked c)) (b.streams t.track) t all takes (same t.track rise.0)))
            (subst (λ (s : Listed). LooksBy (asked c) s t.slot (front_judged (b.lawful_streams t.track) (asked c) (b.streams t.track) t.slot)) (sym (streams t.track))
            ((rightly (b.streams t.track).shape (wraps t.track) (b.lawful_streams t.track) (b.streams t.track).events (asked c) t.slot).0 h.0.looks));
        frames = h.0.frames;
        place = h.0.place;
      },
      takes_legal wraps fronts (t.track + 1) takes rise.1 (λ n le. same n (let r = rise.0 in omega (arith, le, r)) ∙ others_of t takes n (omega (arith, le))) h.1,
    )

    -- each take answers, if it is legal
    takes_answer : (wraps : (i : ℕ) → (b.streams i).shape.wrap ≤ 2 ^ 31) (fronts : (i : ℕ) → b.lawful_streams i ≡ true → o.stream_front i ≡ take_front (lawful_front (asked c)) (b.streams i) (takes_from all i)) (low : ℕ) (takes : List TakeSeen) → TracksRise low takes
        → ((n : ℕ) → low ≤ n → takes_from all n ≡ takes_from takes n) → AllByRecursion (LegalTake c o) takes → AllByRecursion (TakeAnswers c b) takes
    takes_answer wraps fronts low [] rise same h = tt
    takes_answer wraps fronts low (t ∷ takes) rise same h = (
      record {
        looks = (rightly (b.streams t.track).shape (wraps t.track) (b.lawful_streams t.track) (b.streams t.track).events (asked c) t.slot).1 (judged_so (b.streams t.track).shape (wraps t.track) (b.lawful_streams t.track) (b.streams t.track).events (asked c) t.slot (o.stream_front t.track)
            (subst (λ (s : Listed). LooksBy (asked c) s t.slot (o.stream_front t.track)) (streams t.track) h.0.looks)
            (λ e. fronts t.track e ∙ first_front (lawful_front (asked c)) (b.streams t.track) t all takes (same t.track rise.0)));
        frames = h.0.frames;
        place = h.0.place;
      },
      takes_answer wraps fronts (t.track + 1) takes rise.1 (λ n le. same n (let r = rise.0 in omega (arith, le, r)) ∙ others_of t takes n (omega (arith, le))) h.1,
    )

-- ## The turn

-- the blocks as a turn finds them
abbrev pub blocks_of : Marks → TurnFound → BlocksFound
blocks_of marks f = record { lawful_streams = marks.streams; lawful_commands = marks.commands; streams = λ i. listed (f.streams i); commands = λ i. listed (f.commands i) }

module _ (c : Setup) (marks : Marks) (f : TurnFound) (m : NormalKept) (e : Turn)
    (stream_wraps : (i : ℕ) → (f.streams i).shape.wrap ≤ 2 ^ 31) (command_wraps : (i : ℕ) → (f.commands i).shape.wrap ≤ 2 ^ 31) (rise : TracksRise 0 e.mixes)
  where
    -- beyond the tracks there are no looks
    all_looks : length e.tracks ≡ length m.tracks → ((i : ℕ) → i < length m.tracks → AllAnswer (marks.commands i) (listed (f.commands i)) (track_in e i).looks) → (i : ℕ) → AllAnswer (marks.commands i) (listed (f.commands i)) (track_in e i).looks
    all_looks whole h i = by_case (nat_lt i (length m.tracks)) refl
      where
        by_case : (b : Bool) → nat_lt i (length m.tracks) ≡ b → AllAnswer (marks.commands i) (listed (f.commands i)) (track_in e i).looks
        by_case true lt = h i (grind (arith, nat_tests, lt))
        by_case false ge = let out : length e.tracks ≤ i = grind (arith, nat_tests, ge, whole) in
            subst (λ (x : TrackSeen). AllAnswer (marks.commands i) (listed (f.commands i)) x.looks) (sym (get_or-eq_default e.tracks nothing_seen out)) tt

    module _ (open_is : e.ended ≡ false) where
      legal_so : TurnAnswers c f.report (blocks_of marks f) m e → LegalTurnBy c marks f m e
      legal_so h = record { outside = outside; found = refl; streams = λ i lawful. own_take i lawful; commands = λ i lawful. (looks i).own lawful; legal = legal }
        where
          looks : (i : ℕ) → LegalBy (marks.commands i) (listed (f.commands i)) (track_in e i).looks
          looks i = (looks_exactly (f.commands i).shape (command_wraps i) (marks.commands i) (listed (f.commands i)).events (track_in e i).looks).0 (all_looks h.begins.whole h.looks i)

          outside : Outside
          outside = record (outside_of c f e) {
            stream_front = λ i. take_front (front_judged (marks.streams i) (asked c)) (listed (f.streams i)) (takes_from e.mixes i);
            command_fronts = λ i. (looks i).fronts;
          }

          own_take : (i : ℕ) → marks.streams i ≡ true → take_front (front_judged (marks.streams i) (asked c)) (listed (f.streams i)) (takes_from e.mixes i) ≡ take_front (lawful_front (asked c)) (listed (f.streams i)) (takes_from e.mixes i)
          own_take i lawful = ap (λ (b : Bool). take_front (front_judged b (asked c)) (listed (f.streams i)) (takes_from e.mixes i)) lawful

          goes : GoesOn c outside m e
          goes = record {
            ack = h.begins.ack;
            report = h.begins.report;
            room = h.begins.room;
            whole = h.begins.whole;
            tracks = h.serves.tracks;
            looks = λ i lt. (looks i).legal;
            push = h.serves.push;
            due = h.serves.due;
            takes = takes_legal c outside (blocks_of marks f) e.mixes (λ i. refl) stream_wraps (λ i. refl) 0 e.mixes rise (λ n le. refl) h.takes;
          }

          legal : LegalTurn c outside m e
          legal = record { ends = open_is ∙ sym h.begins.goes; still = λ ended. absurd (true≢false (sym ended ∙ open_is)); goes_on = λ is. goes }

      answers_so : LegalTurnBy c marks f m e → TurnAnswers c f.report (blocks_of marks f) m e
      answers_so l =
          let o : Outside = record (outside_of c f e) { stream_front = l.outside.stream_front; command_fronts = l.outside.command_fronts } in
          let goes : GoesOn c o m e = subst (λ (x : Outside). GoesOn c x m e) l.found (l.legal.goes_on open_is) in
          record {
            begins = record { goes = sym l.legal.ends ∙ open_is; ack = goes.ack; report = goes.report; room = goes.room; whole = goes.whole };
            serves = record { tracks = goes.tracks; push = goes.push; due = goes.due };
            looks = λ i lt. (looks_exactly (f.commands i).shape (command_wraps i) (marks.commands i) (listed (f.commands i)).events (track_in e i).looks).1
                (record { fronts = l.outside.command_fronts i; legal = goes.looks i lt; own = λ lawful. l.commands i lawful });
            takes = takes_answer c o (blocks_of marks f) e.mixes (λ i. refl) stream_wraps (λ i lawful. l.streams i lawful) 0 e.mixes rise (λ n le. refl) goes.takes;
          }

    -- a turn that has ended
    ended_so : e.ended ≡ true → (ends_now m e.ack ≡ true) × (e ≡ ended_turn) → LegalTurnBy c marks f m e
    ended_so ended h = record {
      outside = outside_with lawful_front c f e;
      found = refl;
      streams = λ i lawful. refl;
      commands = λ i lawful. refl;
      legal = record { ends = ended ∙ sym h.0; still = λ is. h.1; goes_on = λ open_is. absurd (true≢false (sym ended ∙ open_is)) };
    }

    -- the turn is right exactly if it is legal
    pub turn_exactly : IsRightTurn c f.report (blocks_of marks f) m e ↔ LegalTurnBy c marks f m e
    turn_exactly = by_end e.ended refl
      where
        by_end : (b : Bool) → e.ended ≡ b → MatchBool b ((ends_now m e.ack ≡ true) × (e ≡ ended_turn)) (TurnAnswers c f.report (blocks_of marks f) m e) ↔ LegalTurnBy c marks f m e
        by_end true ended = (ended_so ended, λ (l : LegalTurnBy c marks f m e). (sym l.legal.ends ∙ ended, l.legal.still ended))
        by_end false open_is = (legal_so open_is, answers_so open_is)
