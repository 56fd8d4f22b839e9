-- A turn that saw what a run has found is legal by it: by the own fronts of the lawful blocks, and on other blocks by the fronts that it really saw.
use Rattle.std.proofs.Common.{◌≡◌, ◌⊎◌, inl, inr, ℕ, ◌<◌, Bool, true, false, true≢false, if◌then◌else◌, List, [], length, refl, sym, ap, ◌∙◌, subst}
use Rattle.af_told_law.proofs.Common.{IsSound, LegalLooks, LegalTurn, LegalTurnBy, Listed, LooksBy, Marks, NormalKept, Outside, Setup, Shape, SlotEntry, Turn, TurnFound, after_ack, asked, ended_turn, front_of, fronts_by, is_home, lawful_front, learnt, listed, outside_of, server_list, take_front, takes_from, track_at, track_in}
use Rattle.af_told_law.proofs.Outsides.{AnswerAlike, AreAlike, IsFound, SameFront, SameFronts, SawCommands, SawStream}
use Rattle.af_told_law.proofs.KeptAlike.{looks_told}
use Rattle.af_told_law.proofs.KeptLooks.{all_looks_alike}
use Rattle.af_told_law.proofs.LegalAlike.{all_looks_same, legal_alike, looks_same}
use Rattle.af_told_law.proofs.TakenHome.{taken_home}

module _ (c : Setup) (m : NormalKept) (e : Turn) (o : Outside) (f : TurnFound) (sound : IsSound m.tracks m.draft) (runs : e.ended ≡ false) (legal : LegalTurn c o m e) (found : IsFound c m e o f) where
  -- what the turn saw is alike what the run tells
  pub found_alike : AreAlike m e o (outside_of c f e)
  found_alike = record { report = found.report; streams = found.streams; commands = found.commands }

  -- a track was taken from only if it is home
  from_home : (i : ℕ) → (takes_from e.mixes i ≡ []) ⊎ ((i < length m.tracks) × (is_home (track_at (after_ack e.ack m).tracks i).holder ≡ true))
  from_home i = taken_home c (learnt o) m e i sound (legal.goes_on runs).due

  -- if each front that the server saw is its own, the list and the front are those told, by either rule
  same_front : (i : ℕ) → SawStream c m e o i → (takes_from e.mixes i ≡ []) ⊎ ((o.streams i ≡ listed (f.streams i)) × SameFront (o.streams i) (o.stream_front i) (take_front (front_of (asked c)) (listed (f.streams i)) (takes_from e.mixes i))
      × (take_front (front_of (asked c)) (listed (f.streams i)) (takes_from e.mixes i) ≡ take_front (lawful_front (asked c)) (listed (f.streams i)) (takes_from e.mixes i)))
  same_front i saw = elim (from_home i) as (λ _. Result) [
    | inl none ↦ inl none
    | inr home ↦ (let list = found.same_streams i home.0 home.1 saw in let told = found.takes i home.0 saw in elim told.0 as (λ _. Result) [
      | inl none ↦ inl none
      | inr same ↦ inr (
        list,
        subst (λ (s : Listed). SameFront (o.streams i) (o.stream_front i) (take_front (front_of (asked c)) s (takes_from e.mixes i))) list same,
        subst (λ (s : Listed). take_front (front_of (asked c)) s (takes_from e.mixes i) ≡ take_front (lawful_front (asked c)) s (takes_from e.mixes i)) list told.1,
      )
    ])
  ]
    where
      Result : Type 0
      Result = (takes_from e.mixes i ≡ []) ⊎ ((o.streams i ≡ listed (f.streams i)) × SameFront (o.streams i) (o.stream_front i) (take_front (front_of (asked c)) (listed (f.streams i)) (takes_from e.mixes i))
          × (take_front (front_of (asked c)) (listed (f.streams i)) (takes_from e.mixes i) ≡ take_front (lawful_front (asked c)) (listed (f.streams i)) (takes_from e.mixes i)))

  -- if each front that a command server saw is its own, the list and the fronts of its looks are those told
  same_fronts : (i : ℕ) → i < length m.tracks → SawCommands c m e o i → SameFronts (o.commands i) (track_in e i).looks (o.command_fronts i) (fronts_by front_of (listed (f.commands i)) (track_in e i).looks)
      × (fronts_by front_of (listed (f.commands i)) (track_in e i).looks ≡ fronts_by lawful_front (listed (f.commands i)) (track_in e i).looks)
  same_fronts i low saw =
      let list = found.same_commands i low saw in
      let told = found.looks i low saw in (
        subst (λ (s : Listed). SameFronts (o.commands i) (track_in e i).looks (o.command_fronts i) (fronts_by front_of s (track_in e i).looks)) list told.0,
        subst (λ (s : Listed). fronts_by front_of s (track_in e i).looks ≡ fronts_by lawful_front s (track_in e i).looks) list told.1,
      )

  -- if each front that the server saw is its own, the list of a stream and what the turn took of it are those told
  pub taken_same : (i : ℕ) → SawStream c m e o i → (takes_from e.mixes i ≡ []) ⊎ ((o.streams i ≡ listed (f.streams i)) × SameFront (o.streams i) (o.stream_front i) ((outside_of c f e).stream_front i))
  taken_same i saw = elim (same_front i saw) as (λ _. (takes_from e.mixes i ≡ []) ⊎ ((o.streams i ≡ listed (f.streams i)) × SameFront (o.streams i) (o.stream_front i) ((outside_of c f e).stream_front i))) [
    | inl none ↦ inl none
    | inr here ↦ inr (here.0, here.1)
  ]

  pub looks_same_fronts : (i : ℕ) → i < length m.tracks → SawCommands c m e o i → SameFronts (o.commands i) (track_in e i).looks (o.command_fronts i) ((outside_of c f e).command_fronts i)
  looks_same_fronts i low saw = (same_fronts i low saw).0

  -- ## By marks

  module _ (marks : Marks) (marked_streams : (i : ℕ) → i < length m.tracks → is_home (track_at (after_ack e.ack m).tracks i).holder ≡ true → marks.streams i ≡ true → SawStream c m e o i) (marked_commands : (i : ℕ) → i < length m.tracks → marks.commands i ≡ true → SawCommands c m e o i) where
    -- the fronts on a lawful block are its own, and on another one those that were really seen
    abbrev p : Outside
    p = record (outside_of c f e) {
      stream_front = λ i. if marks.streams i then take_front (lawful_front (asked c)) (listed (f.streams i)) (takes_from e.mixes i) else o.stream_front i;
      command_fronts = λ i. if marks.commands i then fronts_by lawful_front (listed (f.commands i)) (track_in e i).looks else o.command_fronts i;
    }

    looked : (i : ℕ) (b : Bool) → marks.streams i ≡ b → (i < length m.tracks) × (is_home (track_at (after_ack e.ack m).tracks i).holder ≡ true)
        → (takes_from e.mixes i ≡ []) ⊎ ((slot : SlotEntry) → LooksBy (asked c) (o.streams i) slot (o.stream_front i) → LooksBy (asked c) (listed (f.streams i)) slot (if b then take_front (lawful_front (asked c)) (listed (f.streams i)) (takes_from e.mixes i) else o.stream_front i))
    looked i false off home = let near = found.streams i home.0 home.1 in inr (λ slot looks. looks_told (asked c) (o.streams i) (listed (f.streams i)) slot (o.stream_front i) near.shape near.alike looks)
    looked i true on home = elim (same_front i (marked_streams i home.0 home.1 on)) as (λ _. (takes_from e.mixes i ≡ []) ⊎ ((slot : SlotEntry) → LooksBy (asked c) (o.streams i) slot (o.stream_front i) → LooksBy (asked c) (listed (f.streams i)) slot (take_front (lawful_front (asked c)) (listed (f.streams i)) (takes_from e.mixes i)))) [
      | inl none ↦ inl none
      | inr here ↦ inr (λ slot looks. subst (λ (y : Listed × ℕ). LooksBy (asked c) y.0 slot y.1) (λ j. (here.0 j, here.2 j)) (looks_same (o.streams i) (o.stream_front i) (take_front (front_of (asked c)) (listed (f.streams i)) (takes_from e.mixes i)) here.1 (asked c) slot looks))
    ]

    commanded : (i : ℕ) → i < length m.tracks → (b : Bool) → marks.commands i ≡ b → LegalLooks (o.commands i) (track_in e i).looks (o.command_fronts i)
        → LegalLooks (listed (f.commands i)) (track_in e i).looks (if b then fronts_by lawful_front (listed (f.commands i)) (track_in e i).looks else o.command_fronts i)
    commanded i low false off looks =
        let near = found.commands i low in
        let k : Shape = (f.commands i).shape in
        let as_told : o.commands i ≡ record { shape = k; events = (o.commands i).events } = λ j. record { shape = near.shape j; events = (o.commands i).events } in
        all_looks_alike k (o.commands i).events (server_list (f.commands i)) near.alike (track_in e i).looks (o.command_fronts i) (subst (λ (s : Listed). LegalLooks s (track_in e i).looks (o.command_fronts i)) as_told looks)
    commanded i low true on looks =
        let saw = marked_commands i low on in
        let told = same_fronts i low saw in
        subst (λ (y : Listed × List ℕ). LegalLooks y.0 (track_in e i).looks y.1) (λ j. (found.same_commands i low saw j, told.1 j))
        (all_looks_same (o.commands i) (track_in e i).looks (o.command_fronts i) (fronts_by front_of (listed (f.commands i)) (track_in e i).looks) told.0 looks)

    answers : AnswerAlike c m e o p
    answers = record {
      takes = (λ i. elim (from_home i) as (λ _. (takes_from e.mixes i ≡ []) ⊎ ((slot : SlotEntry) → LooksBy (asked c) (o.streams i) slot (o.stream_front i) → LooksBy (asked c) (p.streams i) slot (p.stream_front i))) [
        | inl none ↦ inl none
        | inr home ↦ looked i (marks.streams i) refl home
      ]);
      looks = (λ i low. commanded i low (marks.commands i) refl);
    }

    -- the turn is legal by what the run has found
    pub found_legal : LegalTurnBy c marks f m e
    found_legal = record {
      outside = p;
      found = refl;
      streams = (λ i on. ap (λ (b : Bool). if b then take_front (lawful_front (asked c)) (listed (f.streams i)) (takes_from e.mixes i) else o.stream_front i) on);
      commands = (λ i on. ap (λ (b : Bool). if b then fronts_by lawful_front (listed (f.commands i)) (track_in e i).looks else o.command_fronts i) on);
      legal = legal_alike c m e o p sound (record { report = found.report; streams = found.streams; commands = found.commands }) answers legal;
    }

-- a turn that has ended looks at nothing, so that it is legal by whatever a run has found
pub ended_legal : (c : Setup) (m : NormalKept) (e : Turn) (o : Outside) (f : TurnFound) (marks : Marks) → e.ended ≡ true → LegalTurn c o m e → LegalTurnBy c marks f m e
ended_legal c m e o f marks ends legal =
    let is : e ≡ ended_turn = legal.still ends in record {
      outside = outside_of c f e;
      found = refl;
      streams = (λ i mark. ap (λ (x : Turn). take_front (front_of (asked c)) (listed (f.streams i)) (takes_from x.mixes i)) is ∙ sym (ap (λ (x : Turn). take_front (lawful_front (asked c)) (listed (f.streams i)) (takes_from x.mixes i)) is));
      commands = (λ i mark. ap (λ (x : Turn). fronts_by front_of (listed (f.commands i)) (track_in x i).looks) is ∙ sym (ap (λ (x : Turn). fronts_by lawful_front (listed (f.commands i)) (track_in x i).looks) is));
      legal = record { ends = legal.ends; still = legal.still; goes_on = (λ runs. absurd (true≢false (sym ends ∙ runs))) };
    }
