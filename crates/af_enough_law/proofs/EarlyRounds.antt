-- A round that lends a proxy takes no STOP of its track, and one that takes it back from a track that had not stopped has ended its life, whatever the client is answered.
use Rattle.std.proofs.Common.{◌≡◌, ◌⊎◌, ℕ, zero, suc, ◌*◌, ◌≤◌, ◌&&◌, not, if◌then◌else◌, Bool, true, false, true≢false, Option, Some, None, List, [], ◌∷◌, ◌++◌, length, take, fold, refl, sym, ap, ◌∙◌, subst, arith, append_assoc}
use Rattle.af_enough_law.proofs.Common.{BlockTold, ClientEvent, HasBlockHistory, LegalRound, Life, Marks, NormalKept, Outside, RoundSeen, Run, ServerEvent, Session, Setup, TrackTold, after_calls, after_round, all_command_events, both_right, calls_in, client_list, command_events_of, command_list, found_in, hand_list, invalid, is_tame, learnt, met_after, outside_of, plays, server_list, settled_in, setup_of, sides_of, status_events, told_at, track_at, track_in, tracks_at, words_taken}
use Rattle.af_base.specs.declared.event.ClientEvent.TheVariants as client
use Rattle.af_base.specs.declared.event.ServerEvent.TheVariants as server
use Rattle.af_enough_law.proofs.Courses.{stage}
use Rattle.af_enough_law.proofs.NormalRounds.{TurnMade}
use Rattle.af_enough_law.specs.Seen.{frames_taken, status_by, last_status}
use Rattle.af_enough_law.proofs.AwayKeeps.{StaysOpen, open_of, open_then}
use Rattle.af_enough_law.proofs.CalmTracks.{round_released}
use Rattle.af_enough_law.proofs.CommandRounds.{commands_told}
use Rattle.af_enough_law.proofs.EarlyCalls.{no_stop, Comes, early, late, turn_comes, met_comes}
use Rattle.af_enough_law.proofs.EarlyTaken.{are_low, is_low, low_append, still_low, taken_put, taken_few, early_few, stop_take, short_take}
use Rattle.af_enough_law.proofs.HomeRounds.{IsNamed}
use Rattle.af_enough_law.proofs.LookedLives.{early_turned, left_turned, plain_unstopping, Unstopped, active_on, IsDrained, drained_on, played_turned, Emptied, emptied_turned}
use Rattle.af_enough_law.proofs.RoamingCalls.{no_start, ends_calm, calm_take, calm_rest, stop_front, stop_behind, IsRoaming, roams_calm, turn_roams, met_roams}
use Rattle.af_enough_law.proofs.RoundWords.{words_even}
use Rattle.af_enough_law.proofs.RunLists.{command_lists}
use Rattle.af_enough_law.proofs.RunTracks.{round_blocks, round_client}
use Rattle.af_enough_law.proofs.SentPlain.{ArePlain, even_words, even_course, plain_words, plain_take, course_plain, turn_plain, InPlay, is_over, plays_on, stops_on}
use Rattle.af_enough_law.proofs.StatusRounds.{still_looks, status_told}
use Rattle.af_enough_law.proofs.TakenRounds.{IsCounted, counted_then, words_then, begins}
use Rattle.af_enough_law.proofs.TrackCarried.{TrackCarried}

-- a life that plays hasn't ended
pub plays_alive : (l : Life) → plays l ≡ true → l.ended ≡ false
plays_alive l h = by l.member l.ended h
  where
    by : (a b : Bool) → (a && not b) ≡ true → b ≡ false
    by a false e = refl
    by true true e = absurd (true≢false (sym e))
    by false true e = absurd (true≢false (sym e))

-- ## Words

even_long : (xs : List ℕ) (m : ℕ) → length xs ≡ 2 * m → even_words xs ≡ true
even_long [] m is = refl
even_long (x ∷ []) m is = absurd (let z : ⊥ = omega (arith, is) in z)
even_long (x ∷ y ∷ xs) zero is = absurd (let z : ⊥ = omega (arith, is) in z)
even_long (x ∷ y ∷ xs) (suc m) is = even_long xs m (omega (arith, is))

even_append : (xs ys : List ℕ) → even_words xs ≡ true → even_words ys ≡ true → even_words (xs ++ ys) ≡ true
even_append [] ys a b = b
even_append (x ∷ []) ys a b = absurd (true≢false (sym a))
even_append (x ∷ y ∷ xs) ys a b = even_append xs ys a b

-- what follows whole commands
plain_rest : (xs ys : List ℕ) → even_words xs ≡ true → plain_words (xs ++ ys) ≡ true → plain_words ys ≡ true
plain_rest [] ys even h = h
plain_rest (x ∷ []) ys even h = absurd (true≢false (sym even))
plain_rest (x ∷ y ∷ xs) ys even h = plain_rest xs ys even (both_right _ (plain_words (xs ++ ys)) h)

stop_rest : (xs ys : List ℕ) → even_words xs ≡ true → no_stop (xs ++ ys) ≡ true → no_stop ys ≡ true
stop_rest [] ys even h = h
stop_rest (x ∷ []) ys even h = absurd (true≢false (sym even))
stop_rest (x ∷ y ∷ xs) ys even h = stop_rest xs ys even (both_right _ (no_stop (xs ++ ys)) h)

-- ## What is kept whatever the client is answered

pub record Spoken (run : Run) (i : ℕ) : Type 0 where
  pub stays : StaysOpen run i
  pub sent : ArePlain (told_at run i).commands.released
  pub even : even_words (told_at run i).commands.taken ≡ true

-- a track that is carried has it
pub spoken_of : (run : Run) (i most total : ℕ) → TrackCarried run i most total → Spoken run i
spoken_of run i most total c = record {
  stays = open_of run i most total c;
  sent = subst ArePlain (sym c.on.released) (course_plain c.on.count 0 c.on.sent);
  even = ap even_words c.on.taken ∙ even_course c.on.count 0 c.on.told;
}

-- what the client did so far, and no status that says that two commands are settled
pub record Unsettled (run : Run) (i : ℕ) : Type 0 where
  pub comes : Comes (sides_of (told_at run i))
  pub low : are_low (server_list (told_at run i).commands) ≡ true
  pub counted : IsCounted run i

tail_none : (o : Option ℕ) (n : ℕ) → frames_taken (status_events o ++ server.Learn n ∷ []) ≡ 0
tail_none None n = refl
tail_none (Some word) n = refl

-- the last status is the one that is stored
tail_low : (o : Option ℕ) (n word : ℕ) → settled_in (fold status_by word (status_events o)) ≤ 1 → are_low (status_events o ++ server.Learn n ∷ []) ≡ true
tail_low None n word few = refl
tail_low (Some next) n word few = let e : is_low (server.SetStatus next) ≡ true = search (arith, few) in ap (λ (b : Bool). b && true) e

flags_low : (b : Bool) → are_low (if b then server.SetFlags 4 ∷ [] else []) ≡ true
flags_low true = refl
flags_low false = refl

module _ (cut : Bool) (s : Session) (marks : Marks) (run : Run) (round : RoundSeen) (i : ℕ) (t : TurnMade s marks run round) (legal : LegalRound cut s marks run round) (named : IsNamed s marks run i) (runs : t.turn.ended ≡ false) where
  abbrev after : Run
  after = after_round s run round

  abbrev u : TrackTold
  u = told_at (after_round s run round) i

  same_commands : u.commands ≡ (told_at (met_after s run round) i).commands
  same_commands = (round_blocks s run round i named.low).1

  -- a legal round leaves a client so
  pub comes_then : Comes (sides_of (told_at run i)) → Comes (sides_of u)
  comes_then h =
      let l = command_lists s run round i named.low in
      let v = after_calls (sides_of (told_at run i)) (calls_in round i) in
      met_comes v (sides_of u) (length l.did) (l.client ∙ ap (λ (es : List ClientEvent). es ++ client.Learn (length l.did) ∷ []) l.said_is) (round_released s run round i named.low) (round_client s run round i named.low) (turn_comes (sides_of (told_at run i)) (calls_in round i) (legal.turns.clients i named.named) h)

  pub roams_then : IsRoaming (sides_of (told_at run i)) → IsRoaming (sides_of u)
  roams_then h =
      let v = after_calls (sides_of (told_at run i)) (calls_in round i) in
      met_roams v (sides_of u) (round_released s run round i named.low) (round_client s run round i named.low) (turn_roams (sides_of (told_at run i)) (calls_in round i) (legal.turns.clients i named.named) h)

  abbrev c : Setup
  c = setup_of s

  abbrev o : Outside
  o = outside_of c (found_in s run round t.turn) t.turn

  abbrev looks : List ServerEvent
  looks = all_command_events (o.commands i) (track_in t.turn i).looks (o.command_fronts i)

  abbrev flags : List ServerEvent
  flags = invalid (learnt o) (track_in t.turn i) (tracks_at c (learnt o) run.normal t.turn i) i

  abbrev status : List ServerEvent
  status = status_events (track_in t.turn i).status

  abbrev count : ℕ
  count = (commands_told s marks run round t i named.low).count

  -- what the turn adds to the list of the command block's server: the looks, and then the status
  whole : server_list u.commands ≡ (server_list (told_at run i).commands ++ (looks ++ flags)) ++ (status ++ server.Learn count ∷ [])
  whole =
      let before = server_list (told_at run i).commands in
      let list_is : command_list c o t.turn (tracks_at c (learnt o) run.normal t.turn i) i ≡ (looks ++ flags) ++ status = ap (λ (b : Bool). if b then [] else command_events_of c o (track_in t.turn i) (tracks_at c (learnt o) run.normal t.turn i) i) runs in
      ap server_list same_commands ∙ (commands_told s marks run round t i named.low).server
      ∙ ap (λ (es : List ServerEvent). before ++ (es ++ server.Learn count ∷ [])) list_is
      ∙ ap (λ (es : List ServerEvent). before ++ es) (append_assoc (looks ++ flags) status (server.Learn count ∷ []))
      ∙ sym (append_assoc before (looks ++ flags) (status ++ server.Learn count ∷ []))

  looks_low : are_low (looks ++ flags) ≡ true
  looks_low = low_append looks flags (still_low looks (still_looks (track_in t.turn i).looks (o.command_fronts i) (o.commands i))) (flags_low _)

  -- the statuses say so after the round too, if the last one does
  pub low_then : are_low (server_list (told_at run i).commands) ≡ true → settled_in (last_status (server_list u.commands)) ≤ 1 → are_low (server_list u.commands) ≡ true
  low_then low few =
      ap are_low whole
      ∙ low_append (server_list (told_at run i).commands ++ (looks ++ flags)) (status ++ server.Learn count ∷ []) (low_append (server_list (told_at run i).commands) (looks ++ flags) low looks_low)
      (tail_low (track_in t.turn i).status count (last_status (server_list (told_at run i).commands))
      (let same = ap (λ (b : BlockTold). settled_in (last_status (server_list b))) same_commands in
      let told = ap settled_in (status_told s run round t.turn i (told_at run i).commands (told_at (met_after s run round) i).commands (commands_told s marks run round t i named.low) runs (track_in t.turn i) refl) in omega (arith, same, told, few)))

  module _ (k : Spoken run i) where
    stays_then : StaysOpen after i
    stays_then = open_then cut s marks run round i t legal named runs k.stays

    follow : u.commands.taken ≡ (told_at run i).commands.taken ++ words_taken (track_in t.turn i).looks
    follow = words_then cut s marks run round i t legal named runs k.stays

    front : (n : ℕ) × (u.commands.taken ≡ take n u.commands.released)
    front = begins cut s marks run round i t legal named runs k.stays

    pub spoken_then : Spoken after i
    spoken_then = record {
      stays = stays_then;
      sent = subst ArePlain (sym (round_released s run round i named.low)) (turn_plain (sides_of (told_at run i)) (calls_in round i) k.stays.keeps.flushless (legal.turns.clients i named.named) k.sent);
      even = ap even_words follow ∙ even_append (told_at run i).commands.taken (words_taken (track_in t.turn i).looks) k.even (let w = words_even (track_in t.turn i).looks in even_long _ w.0 w.1);
    }

    pub plain_looked : plain_words (words_taken (track_in t.turn i).looks) ≡ true
    plain_looked = plain_rest (told_at run i).commands.taken (words_taken (track_in t.turn i).looks) k.even (ap plain_words (sym follow ∙ front.1) ∙ plain_take front.0 u.commands.released spoken_then.sent.plain)

    -- ## A track that took fewer than two commands

    module _ (n : Unsettled run i) where
      pub counts_then : IsCounted after i
      counts_then = counted_then cut s marks run round i t legal named runs k.stays n.counted

      history : HasBlockHistory u.commands
      history = subst HasBlockHistory (sym same_commands) ((legal.histories.blocks i named.named).commands refl (ap is_tame (sym same_commands) ∙ stays_then.keeps.pokeless.commands))

      taken_four : frames_taken (server_list u.commands) ≤ 4
      taken_four = elim (comes_then n.comes) as (λ _. frames_taken (server_list u.commands) ≤ 4) [
        | early e ↦ (let a = taken_put u.commands.shape (client_list u.commands) u.commands.released (server_list u.commands) u.commands.taken (hand_list u.commands) history stays_then.is_open.none in let b = e.put in let d = early_few _ e.sent e.client in omega (arith, a, b, d))
        | late l ↦ taken_few u.commands.shape (client_list u.commands) u.commands.released (server_list u.commands) u.commands.taken (hand_list u.commands) history stays_then.is_open.none l.saw
            (server_list (told_at run i).commands ++ (looks ++ flags)) (status ++ server.Learn count ∷ []) whole (low_append (server_list (told_at run i).commands) (looks ++ flags) n.low looks_low) (tail_none (track_in t.turn i).status count)
      ]

      stopless : no_stop (take 4 u.commands.released) ≡ true
      stopless = elim (comes_then n.comes) as (λ _. no_stop (take 4 u.commands.released) ≡ true) [
        | early e ↦ stop_take 4 u.commands.released e.stopless
        | late l ↦ l.stopless
      ]

      -- the turn takes no STOP
      pub no_stop_looked : no_stop (words_taken (track_in t.turn i).looks) ≡ true
      no_stop_looked =
          let few : length (take front.0 u.commands.released) ≤ 4 = (let a = ap length front.1 in let b = counts_then in let d = taken_four in omega (arith, a, b, d)) in
          stop_rest (told_at run i).commands.taken (words_taken (track_in t.turn i).looks) k.even
          (ap no_stop (sym follow ∙ front.1 ∙ short_take 4 front.0 u.commands.released few) ∙ stop_take front.0 (take 4 u.commands.released) stopless)

      -- if the round leaves the track to be heard, it leaves it in play
      pub plays_then : (track_at run.normal.tracks i).life.ended ≡ false → Unstopped (track_at run.normal.tracks i).life → plays (track_at after.normal.tracks i).life ≡ true → InPlay (track_at after.normal.tracks i).life
      plays_then alive unstopped heard =
          subst (λ (m : NormalKept). InPlay (track_at m.tracks i).life) (sym t.after)
          (early_turned InPlay plays_on c (learnt t.by.outside) run.normal t.turn i named.there runs alive (plain_unstopping (words_taken (track_in t.turn i).looks) plain_looked no_stop_looked) unstopped (ap (λ (m : NormalKept). plays (track_at m.tracks i).life) (sym t.after) ∙ heard))

      pub plays_fresh : (track_at run.normal.tracks i).life.ended ≡ false → Unstopped (track_at run.normal.tracks i).life → plays (track_at after.normal.tracks i).life ≡ true → Unstopped (track_at after.normal.tracks i).life
      plays_fresh alive unstopped heard =
          subst (λ (m : NormalKept). Unstopped (track_at m.tracks i).life) (sym t.after)
          (early_turned Unstopped active_on c (learnt t.by.outside) run.normal t.turn i named.there runs alive (plain_unstopping (words_taken (track_in t.turn i).looks) plain_looked no_stop_looked) unstopped (ap (λ (m : NormalKept). plays (track_at m.tracks i).life) (sym t.after) ∙ heard))

    -- ## A track in play

    -- a track in play that isn't to be heard after the round has ended
    pub ended_then : InPlay (track_at run.normal.tracks i).life → 2 ≤ (track_at run.normal.tracks i).life.retries → plays (track_at after.normal.tracks i).life ≡ false → (track_at after.normal.tracks i).life.ended ≡ true
    ended_then play two out =
        ap (λ (m : NormalKept). (track_at m.tracks i).life.ended) t.after
        ∙ left_turned c (learnt t.by.outside) run.normal t.turn i named.there runs plain_looked play two (ap (λ (m : NormalKept). plays (track_at m.tracks i).life) (sym t.after) ∙ out)

    -- a track in play that is to be heard after the round is in play then, or drained
    pub played_then : (track_at run.normal.tracks i).life.ended ≡ false → InPlay (track_at run.normal.tracks i).life → plays (track_at after.normal.tracks i).life ≡ true → InPlay (track_at after.normal.tracks i).life ⊎ IsDrained (track_at after.normal.tracks i).life
    played_then alive play heard =
        subst (λ (m : NormalKept). InPlay (track_at m.tracks i).life ⊎ IsDrained (track_at m.tracks i).life) (sym t.after)
        (played_turned c (learnt t.by.outside) run.normal t.turn i named.there runs alive plain_looked play (ap (λ (m : NormalKept). plays (track_at m.tracks i).life) (sym t.after) ∙ heard))

    -- ## A track that has a STOP

    module _ (r : IsRoaming (sides_of (told_at run i))) (stop : no_stop (told_at run i).commands.taken ≡ false) where
      -- takes no START
      no_start_looked : no_start (words_taken (track_in t.turn i).looks) ≡ true
      no_start_looked = calm_rest (told_at run i).commands.taken (words_taken (track_in t.turn i).looks) k.even stop
          (ap ends_calm (sym follow ∙ front.1) ∙ calm_take front.0 u.commands.released (roams_calm (sides_of u) (roams_then r)))

      -- if all of the track is consumed, it has stopped or ended
      pub emptied_then : Emptied (track_at run.normal.tracks i).life → Emptied (track_at after.normal.tracks i).life × (plays (track_at after.normal.tracks i).life ≡ false)
      emptied_then empty =
          subst (λ (m : NormalKept). Emptied (track_at m.tracks i).life × (plays (track_at m.tracks i).life ≡ false)) (sym t.after)
          (emptied_turned c (learnt t.by.outside) run.normal t.turn i named.there runs plain_looked no_start_looked empty)

      pub stop_then : no_stop u.commands.taken ≡ false
      stop_then = ap no_stop follow ∙ stop_front (told_at run i).commands.taken (words_taken (track_in t.turn i).looks) k.even stop

    -- a round that drains a track that took no STOP takes one
    pub stop_taken : (track_at run.normal.tracks i).life.ended ≡ false → Unstopped (track_at run.normal.tracks i).life → IsDrained (track_at after.normal.tracks i).life → plays (track_at after.normal.tracks i).life ≡ true → no_stop u.commands.taken ≡ false
    stop_taken alive unstopped drained heard = ap no_stop follow ∙ stop_behind (told_at run i).commands.taken (words_taken (track_in t.turn i).looks) k.even (by (no_stop (words_taken (track_in t.turn i).looks)) refl)
      where
        drained_stage : (l : Life) → IsDrained l → stage l ≡ 2
        drained_stage _ (drained_on r s) = refl

        play_stage : (l : Life) → InPlay l → l.ended ≡ false → stage l ≤ 1
        play_stage _ (is_over _ e) alive = absurd (true≢false (sym e ∙ alive))
        play_stage _ (plays_on b r s) alive = omega arith
        play_stage _ (stops_on b r s) alive = omega arith

        drained_not : (l : Life) → InPlay l → IsDrained l → l.ended ≡ false → ⊥
        drained_not l p d alive = let a = drained_stage l d in let b = play_stage l p alive in omega (arith, a, b)

        by : (b : Bool) → no_stop (words_taken (track_in t.turn i).looks) ≡ b → no_stop (words_taken (track_in t.turn i).looks) ≡ false
        by false is = is
        by true is = absurd (drained_not (track_at after.normal.tracks i).life
            (subst (λ (m : NormalKept). InPlay (track_at m.tracks i).life) (sym t.after)
            (early_turned InPlay plays_on c (learnt t.by.outside) run.normal t.turn i named.there runs alive (plain_unstopping (words_taken (track_in t.turn i).looks) plain_looked is) unstopped (ap (λ (m : NormalKept). plays (track_at m.tracks i).life) (sym t.after) ∙ heard)))
            drained (plays_alive (track_at after.normal.tracks i).life heard))
