-- In a turn run of a script without pokes no block is poked.
use Rattle.std.proofs.Common.{◌≡◌, ◌⊎◌, inl, inr, ℕ, ◌<◌, ◌≤◌, not, Bool, true, false, true≢false, List, [], ◌∷◌, length, refl, sym, ap, ◌∙◌, subst, arith}
use Rattle.af_one_turn_run.proofs.Common.{AreTurns, IsMadeBy, IsScript, LegalClientTurn, Marks, OnlyCalls, RoundSeen, Run, Session, TrackTold, TurnSpec, both_true, calls_in, cases_lt, get_or_past, is_lawful, is_poke_on, list_all, list_any, made_alone, marks_of, met, neither_is, sides_of, told_at, with_ends}
use Rattle.af_script.specs.declared.op.Op.{Op}
use Rattle.af_script.specs.declared.op.Op.TheVariants as op
use Rattle.af_script.specs.declared.op.TurnSpec.TheVariants as makes
use Rattle.af_enough_law.proofs.PlainRounds.{called_plain, plain_kept}
use Rattle.af_enough_law.proofs.Pokeless.{IsPokelessTrack, is_pokeless_op, is_pokeless_want, pokeless, turn_free}
use Rattle.af_enough_law.proofs.TracksKept.{AllTracks, IsQuietlyKept, ends_keep, made_keeps, met_keeps}
use Rattle.af_one_turn_run.specs.NoPokes.{is_poke_op, PlainOps}
use Rattle.af_one_turn_run.proofs.AllTold.{AllForms, AllTame}
use Rattle.af_one_turn_run.proofs.RoundFollows.{met_alone_follows, round_follows}

-- ## Ops

op_pokeless : (o : Op) → is_poke_op o ≡ false → is_pokeless_op o ≡ true
op_pokeless (op.Poke in_command word value) h = absurd (true≢false h)
op_pokeless _ h = refl

pub ops_pokeless : (ops : List Op) → PlainOps ops → list_all is_pokeless_op ops ≡ true
ops_pokeless [] h = refl
ops_pokeless (o ∷ ops) h = both_true (is_pokeless_op o) (list_all is_pokeless_op ops) (op_pokeless o h.0) (ops_pokeless ops h.1)

-- ## A run

-- a track whose client wants no poke, and whose blocks were not poked
abbrev pub IsTrackPlain : TrackTold → Type 0
IsTrackPlain t = IsPokelessTrack (sides_of t)

abbrev pub IsRunPlain : Run → Type 0
IsRunPlain run = AllTracks (λ n. IsTrackPlain) run

kept : IsQuietlyKept (λ n. IsTrackPlain)
kept = plain_kept is_pokeless_want is_pokeless_op is_lawful pokeless

-- ## The rounds

-- no call of the round is a poke
abbrev pub IsRoundPlain : RoundSeen → Type 0
IsRoundPlain round = (n : ℕ) (on : Bool) → list_any (is_poke_on on) (calls_in round n) ≡ false

abbrev pub AreRoundsPlain : List RoundSeen → Type 0
AreRoundsPlain [] = Unit {0}
AreRoundsPlain (round ∷ rounds) = IsRoundPlain round × AreRoundsPlain rounds

module _ (s : Session) (marks : Marks) (run : Run) (round : RoundSeen) where
  legal_of : (turn : TurnSpec) → IsMadeBy s marks run turn round → (track : ℕ) → turn ≡ makes.Client track → LegalClientTurn (sides_of (told_at run track)) (calls_in round track)
  legal_of turn made track is = (subst (λ (t : TurnSpec). IsMadeBy s marks run t round) is made).3

  made_plain : (turn : TurnSpec) → IsRunPlain run → IsMadeBy s marks run turn round → IsRunPlain (made_alone s run turn round)
  made_plain turn h made =
      made_keeps (λ n. IsTrackPlain) kept s run turn round
      (λ track is low plain. called_plain is_pokeless_want is_pokeless_op is_lawful pokeless (told_at run track) (calls_in round track) plain (legal_of turn made track is)) h

  -- the calls of the one client that may make some are no pokes
  only_plain : (May : ℕ → Type 0) → OnlyCalls May round → ((n : ℕ) → May n → IsRunPlain run → (on : Bool) → list_any (is_poke_on on) (calls_in round n) ≡ false) → IsRunPlain run → IsRoundPlain round
  only_plain May only one h n on = by (only n)
    where
      by : May n ⊎ (calls_in round n ≡ []) → list_any (is_poke_on on) (calls_in round n) ≡ false
      by (inl may) = one n may h on
      by (inr none) = ap (list_any (is_poke_on on)) none

  client_plain : (n : ℕ) → length round.calls ≡ length run.tracks → LegalClientTurn (sides_of (told_at run n)) (calls_in round n) → IsRunPlain run → (on : Bool) → list_any (is_poke_on on) (calls_in round n) ≡ false
  client_plain n long legal h on = by (cases_lt n (length run.tracks))
    where
      by : (n < length run.tracks) ⊎ (length run.tracks ≤ n) → list_any (is_poke_on on) (calls_in round n) ≡ false
      by (inl low) = turn_free on (sides_of (told_at run n)) (calls_in round n) (h n low) legal
      by (inr past) = ap (list_any (is_poke_on on)) (get_or_past round.calls n [] (omega (arith, long, past)))

  calls_plain : (turn : TurnSpec) → length round.calls ≡ length run.tracks → IsRunPlain run → IsMadeBy s marks run turn round → IsRoundPlain round
  calls_plain (makes.Client track) long h made =
      only_plain (λ t. t ≡ track) made.0 (λ n same. client_plain n long (subst (λ (k : ℕ). LegalClientTurn (sides_of (told_at run k)) (calls_in round k)) (sym same) made.3)) h
  calls_plain makes.Normal long h made = only_plain (λ t. ⊥) made.0 (λ n never. absurd never) h
  calls_plain (makes.Fast cycles) long h made = only_plain (λ t. ⊥) made.0 (λ n never. absurd never) h

module _ (s : Session) (form : IsScript s.script) (many : ℕ) (marks : Marks) where
  pub rounds_plain : (run : Run) (turns : List TurnSpec) (rounds : List RoundSeen) → length run.tracks ≡ many → IsRunPlain run → AllForms s form many marks rounds → AreTurns s marks run turns rounds → AreRoundsPlain rounds × AllTame s form many marks run turns rounds
  rounds_plain run [] rounds long h forms are = (subst AreRoundsPlain (sym are) tt, tt)
  rounds_plain run (turn ∷ turns) [] long h forms are = absurd are
  rounds_plain run (turn ∷ turns) (round ∷ rounds) long h forms are =
      let last = met s (made_alone s run turn round) in
      let met_is = met_keeps (λ n. IsTrackPlain) kept s (made_alone s run turn round) (made_plain s marks run round turn h are.0) in
      let f = met_alone_follows s form many run turn round forms.0 in
      let g = round_follows s form many run turn round forms.0 in
      let rest = rounds_plain (with_ends last) turns rounds (g.long ∙ long) (ends_keep (λ n. IsTrackPlain) kept s last met_is) forms.1 are.2 in (
        (calls_plain s marks run round turn (forms.0.form.calls ∙ sym long) h are.0, rest.0),
        (λ n low. let is = met_is n (let l = f.long in omega (arith, l, long, low)) in (is.stream, is.commands), rest.1),
      )

-- ## The marks

rounds_unpoked : (on : Bool) (rounds : List RoundSeen) (n : ℕ) → AreRoundsPlain rounds → list_any (λ round. list_any (is_poke_on on) (calls_in round n)) rounds ≡ false
rounds_unpoked on [] n h = refl
rounds_unpoked on (round ∷ rounds) n h = neither_is (list_any (is_poke_on on) (calls_in round n)) (list_any (λ r. list_any (is_poke_on on) (calls_in r n)) rounds) (h.0 n on) (rounds_unpoked on rounds n h.1)

-- all blocks are lawful
pub all_lawful : (rounds : List RoundSeen) → AreRoundsPlain rounds → marks_of rounds ≡ (let m : Marks = record { streams = λ n. true; commands = λ n. true } in m)
all_lawful rounds h = λ i. let m : Marks = record { streams = λ n. not (rounds_unpoked false rounds n h i); commands = λ n. not (rounds_unpoked true rounds n h i) } in m
