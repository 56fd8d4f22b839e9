-- The rounds of a run of all parties are those that its journal records, one after the other.
use Rattle.std.proofs.Common.{◌≡◌, ℕ, zero, suc, ◌+◌, ◌-◌, if◌then◌else◌, Bool, true, false, List, [], ◌∷◌, length, map, option_map, take, drop, Some, slice_get, refl, sym, ap, subst, ◌∙◌, arith}
use Rattle.af_playing.proofs.Common.{ClientCall, CyclesOn, CyclesOnce, EntrySeen, FastTurned, GrowsBy, IsRoundOfAll, Links, Logged, Marks, MatchBool, MixerState, PartyState, PlaysOn, RoundNoted, Session, SessionState, end_party, entries_grown, entries_seen, get_or_from_slice_get, grows_none, grows_then, is_mixed, length-append, mix_grows, most_cycles, polled_keeps, rounds_seen, slice_get-map, slice_index_or, with_ends}
use Rattle.af_told_law.proofs.MarkedRuns.{AreRoundsMarked}
use Rattle.af_told_law.specs.Tells.{given_of}
use Rattle.af_told_law.proofs.EntriesDealt.{first_dealt, rest_dealt}
use Rattle.af_play_law.specs.RoundPlayed.{RoundPlayed}
use Rattle.af_playing.specs.PlayedRuns.{GoesOn, IsRunOfAll}
use Rattle.af_playing.proofs.GoingOn.{room_left}

-- ## How the log grows

-- one cycle adds one entry to the log at most
once_grows : (links : Links) (m next : MixerState) (w : (b : List ℕ) × (answer : _) × CyclesOnce links m answer b next) → GrowsBy 1 m.log next.log
once_grows links m next (bytes, answer, once) = subst (λ (l : Logged). GrowsBy 1 l next.log) (polled_keeps m once.polled once.adopts).0 (mix_grows once.polled next once.before once.after answer once.mixes)

-- one cycle and those behind it add their entries to the log
grows_on : (left : ℕ) (m next m' : MixerState) (back : List ℕ) (mixed : Bool) → GrowsBy 1 m.log next.log → (mixed ≡ true → GrowsBy left next.log m'.log) → (mixed ≡ false → (back ≡ []) × (m' ≡ next)) → GrowsBy (suc left) m.log m'.log
grows_on left m next m' back true first goes stops = grows_then 1 left (suc left) m.log next.log m'.log (omega arith) first (goes refl)
grows_on left m next m' back false first goes stops = grows_then 1 0 (suc left) m.log next.log m'.log (omega arith) first (grows_none 0 next.log m'.log (ap (λ (f : MixerState). f.log) (stops refl).1))

cycles_grow : (links : Links) (left : ℕ) (m : MixerState) (bytes : List ℕ) (m' : MixerState) → CyclesOn links left m bytes m' → GrowsBy left m.log m'.log
cycles_grow links zero m bytes m' turn = grows_none 0 m.log m'.log (ap (λ (f : MixerState). f.log) turn.1)
cycles_grow links (suc left) m bytes m' turn = grows_on left m turn.1 m' turn.3 (is_mixed turn.0) (once_grows links m turn.1 (turn.2, turn.0, turn.4)) (λ mixed. cycles_grow links left turn.1 turn.3 m' (turn.6 mixed)) turn.7

-- a turn adds sixteen entries to the log at most
pub turn_grows : (links : Links) (m : MixerState) (bytes : List ℕ) (m' : MixerState) → FastTurned links m bytes m' → GrowsBy 16 m.log m'.log
turn_grows links m bytes m' turned = by_exit m.exited turned
  where
    by_exit : (b : Bool) → MatchBool b ((bytes ≡ []) × (m' ≡ m)) (CyclesOn links most_cycles m bytes m') → GrowsBy 16 m.log m'.log
    by_exit true still = grows_none 16 m.log m'.log (ap (λ (f : MixerState). f.log) still.1)
    by_exit false turn = cycles_grow links most_cycles m bytes m' turn

-- the ends leave the fast mixer
ends_leave : (z : SessionState) → (with_ends z).fast ≡ z.fast
ends_leave z = by_end z.normal.ended
  where
    by_end : (b : Bool) → (if b then record z { clients = map end_party z.clients } else z).fast ≡ z.fast
    by_end true = refl
    by_end false = refl

module _ (s : Session) where
  -- the meetings and the ends leave the log
  round_log : (x : SessionState) (r : RoundNoted) (bytes : List ℕ) (y : SessionState) (w : IsRoundOfAll (given_of s) x r bytes y) → y.fast.log ≡ w.turned.fast.log
  round_log x r bytes y w = ap (λ (z : SessionState). z.fast.log) w.ends ∙ ap (λ (f : MixerState). f.log) (ends_leave w.met) ∙ ap (λ (f : MixerState). f.log) w.meets.ends.fast

  -- a round adds sixteen entries to the log at most
  round_grows : (x : SessionState) (r : RoundNoted) (bytes : List ℕ) (y : SessionState) → IsRoundOfAll (given_of s) x r bytes y → GrowsBy 16 x.fast.log y.fast.log
  round_grows x r bytes y w = subst (GrowsBy 16 x.fast.log) (sym (round_log x r bytes y w)) (turn_grows w.links x.fast bytes w.turned.fast w.plays.fast)

  -- how many entries these rounds add to the log at most
  abbrev most_of : List RoundNoted → ℕ
  most_of [] = 0
  most_of (r ∷ rs) = 16 + most_of rs

  run_grows : (x : SessionState) (rounds : List RoundNoted) (bytes : List ℕ) (t : SessionState) → IsRunOfAll (given_of s) x rounds bytes t → GrowsBy (most_of rounds) x.fast.log t.fast.log
  run_grows x [] bytes t run = grows_none 0 x.fast.log t.fast.log (ap (λ (z : SessionState). z.fast.log) run.1)
  run_grows x (r ∷ rs) bytes t (front, back, y, goes, is, w, rest) = grows_then 16 (most_of rs) (16 + most_of rs) x.fast.log y.fast.log t.fast.log (omega arith) (round_grows x r front y w) (run_grows y rs back t rest)

  -- ## A round

  module _ (x : SessionState) (r : RoundNoted) (bytes : List ℕ) (y : SessionState) (w : IsRoundOfAll (given_of s) x r bytes y) (entries : List EntrySeen) (are : take r.cycles entries ≡ entries_grown x.fast.log y.fast.log) (goes : GoesOn x) where
    abbrev u : SessionState
    u = w.turned

    calls_noted : (i : ℕ) (q : PartyState) → slice_get u.clients i ≡ Some q → slice_index_or r.calls i [] ≡ q.calls.items
    calls_noted i q is =
        let items : PartyState → List ClientCall = λ (p : PartyState). p.calls.items in
        ap (λ (n : RoundNoted). slice_index_or n.calls i []) w.told
        ∙ get_or_from_slice_get (map items u.clients) i (items q) [] (slice_get-map items u.clients i ∙ ap (option_map items) is)

    pub round_played : RoundPlayed w.links s x w.turned w.met bytes (record { calls = r.calls; turn = r.turn; entries = take r.cycles entries })
    round_played = record {
      plays = w.plays;
      meets = w.meets;
      before = w.together.0;
      turned = w.together.1;
      met = w.together.2;
      room = room_left x w.together.0.fast.0.room.entries.0 goes;
      notes = record {
        calls = calls_noted;
        turn = ap (λ (n : RoundNoted). n.turn) w.told;
        entries = are ∙ (λ j. entries_seen (drop (length x.fast.log.frames) (round_log x r bytes y w j).frames) (drop (length x.fast.log.entries) (round_log x r bytes y w j).entries));
      };
    }

  -- ## The rounds

  pub plays_on : (marks : Marks) (rounds : List RoundNoted) (x : SessionState) (bytes : List ℕ) (t : SessionState) → IsRunOfAll (given_of s) x rounds bytes t → AreRoundsMarked marks rounds
      → PlaysOn s marks x (rounds_seen (entries_grown x.fast.log t.fast.log) rounds) t
  plays_on marks [] x bytes t run free = run.1
  plays_on marks (r ∷ rs) x bytes t (front, back, y, goes, is, w, rest) free =
      let first : GrowsBy 16 x.fast.log y.fast.log = round_grows x r front y w in
      let behind : GrowsBy (most_of rs) y.fast.log t.fast.log = run_grows y rs back t rest in
      let all : List EntrySeen = entries_grown x.fast.log t.fast.log in
      let log : y.fast.log ≡ w.turned.fast.log = round_log x r front y w in
      let many : length y.fast.log.entries ≡ length w.turned.fast.log.entries = ap (λ (l : Logged). length l.entries) log in
      let told : r.cycles ≡ length w.turned.fast.log.entries - length x.fast.log.entries = ap (λ (n : RoundNoted). n.cycles) w.told in
      let long : length y.fast.log.entries ≡ length x.fast.log.entries + length first.more = ap length first.entries ∙ length-append x.fast.log.entries first.more in
      let count : length x.fast.log.entries + r.cycles ≡ length y.fast.log.entries = omega (arith, many, told, long) in
      let here : take r.cycles all ≡ entries_grown x.fast.log y.fast.log = first_dealt 16 (most_of rs) x.fast.log y.fast.log t.fast.log first behind r.cycles count in
      let later : drop r.cycles all ≡ entries_grown y.fast.log t.fast.log = rest_dealt 16 (most_of rs) x.fast.log y.fast.log t.fast.log first behind r.cycles count in (
        w.links,
        w.turned,
        w.met,
        front,
        goes.some,
        free.0,
        round_played x r front y w all here goes,
        subst (λ (q : SessionState × List EntrySeen). PlaysOn s marks q.0 (rounds_seen q.1 rs) t) (λ j. (w.ends j, sym later j)) (plays_on marks rs y back t rest free.1),
      )
