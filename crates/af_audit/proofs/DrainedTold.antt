-- In a legal run each track that is reported drained has reached its STOP.
use Rattle.std.proofs.Common.{◌≡◌, ℕ, ◌<◌, Bool, true, false, All, List, [], ◌∷◌, ◌++◌, refl, sym, subst, take, ap, arith}
use Rattle.af_audit.proofs.Common.{All-head, All-tail, BlockTold, Frame, IsLegalRun, IsRound, IsScript, JournalData, LegalRound, LegalRounds, LifeStep, Marks, RoundSeen, Run, ScriptData, Session, Shape, TrackTold, after_round, both_right, calls_in, client_list, is_lawful_block, is_lawful_track, is_poke_on, list_any, marks_of, neither, new_run, not_true, server_list, session_of, track_count}
use Rattle.af_runs.specs.Blocks.{hand_list}
use Rattle.af_audit.proofs.FatesTold.{told_new}
use Rattle.af_audit.specs.Drained.{EachDrainedTrackReachedItsStop, HasReachedStop, Sent, WhereDrained, consumed_of, round_steps, sent_in}
use Rattle.af_audit.proofs.Reached.{Keeps, keeps_round, new_keeps, reached_round}
use Rattle.af_audit.proofs.SentTold.{commands_at, sent_history, sent_round}
use Rattle.af_audit.proofs.Stopped.{Reaches}
use Rattle.af_audit.proofs.CommandDrops.{taken_first}
use Rattle.af_audit.proofs.SettledRounds.{SettlesSo, new_settles, round_settles}
use Rattle.af_audit.proofs.StopSent.{SentSo, stop_sent}

-- what is kept of a track whose command block has no poke
pub record SendsSo (s : Session) (n : ℕ) (run : Run) (steps : List LifeStep) (sent : List Sent) : Type 0 where
  pub settles : SettlesSo s n run
  pub so : SentSo (commands_at n run) steps sent

-- none of the calls of these rounds pokes the command block
abbrev pub AreCalm : ℕ → List RoundSeen → Type 0
AreCalm n rounds = list_any (λ round. list_any (is_poke_on true) (calls_in round n)) rounds ≡ false

-- ## A round

module _ (cut : Bool) (s : Session) (script : IsScript s.script) (marks : Marks) (tracks n : ℕ) (low : n < track_count s) (run : Run) (round : RoundSeen) (steps : List LifeStep) (sent : List Sent) (form : IsRound tracks round) (legal : LegalRound cut s marks run round) (calm : list_any (is_poke_on true) (calls_in round n) ≡ false) (h : SendsSo s n run steps sent) where
  abbrev last : BlockTold
  last = commands_at n (after_round s run round)

  sends_round : SendsSo s n (after_round s run round) (round_steps s run round round.turn n steps) (sent ++ sent_in run round n)
  sends_round = record { settles = round_settles cut s script marks run round tracks n low form legal h.settles calm; so = sent_round s run round n h.settles.tells.low cut marks legal low steps sent h.so }

  -- the words taken by the end of the round begin those released
  taken_begins : (count : ℕ) × (last.taken ≡ take count last.released)
  taken_begins =
      let now = round_settles cut s script marks run round tracks n low form legal h.settles calm in
      let commands = now.commands.commands in
      let flat : last.shape.wrap ≡ 0 = ap (λ (k : Shape). k.wrap) commands.shape in
      taken_first last.shape (omega (arith, flat)) (client_list last) last.released (server_list last) last.taken (hand_list last) (sent_history s run round n h.settles.tells.low cut marks legal low steps sent h.so (now.trim.tame refl)) commands.calm commands.drops

-- ## All rounds

rounds_told : Reaches → (cut : Bool) (s : Session) → IsScript s.script → (marks : Marks) (tracks n : ℕ) (lawful : Bool) (rounds : List RoundSeen) (run : Run) (steps : List LifeStep) (sent : List Sent) → n < track_count s → All (IsRound tracks) rounds → LegalRounds cut s marks run rounds
    → (lawful ≡ true → AreCalm n rounds) → Keeps s n run steps → (lawful ≡ true → SendsSo s n run steps sent)
    → WhereDrained (λ run steps sent. HasReachedStop lawful (consumed_of run n) steps sent) s run steps sent rounds n
rounds_told reached cut s script marks tracks n lawful [] run steps sent low forms legal calm h so = tt
rounds_told reached cut s script marks tracks n lawful (round ∷ rounds) run steps sent low forms legal calm h so =
    let form = All-head (IsRound tracks) round rounds forms in
    let now : List LifeStep = round_steps s run round round.turn n steps in
    let all : List Sent = sent ++ sent_in run round n in
    let after : Run = after_round s run round in
    let two = λ (is : lawful ≡ true). neither (list_any (is_poke_on true) (calls_in round n)) _ (calm is) in
    let further = λ (is : lawful ≡ true). sends_round cut s script marks tracks n low run round steps sent form legal.0 (two is).0 (so is) in
    let begins = λ (is : lawful ≡ true). taken_begins cut s script marks tracks n low run round steps sent form legal.0 (two is).0 (so is) in (
      (λ says. let d = reached_round cut s script marks run round tracks n steps form legal.0 h reached low says in
          record { count = d.0; stopped = d.1; reached = d.2; is_sent = λ is. stop_sent (commands_at n after) now all d.0 (begins is).0 (further is).so (begins is).1 d.1 }),
      rounds_told reached cut s script marks tracks n lawful rounds after now all low (All-tail (IsRound tracks) round rounds forms) legal.1 (λ is. (two is).1) (keeps_round cut s script marks run round tracks n steps form legal.0 h) further,
    )

-- ## Before the first round

pub new_sends : (s : Session) (n : ℕ) → IsScript s.script → n < track_count s → SendsSo s n (new_run s) [] []
new_sends s n script low = record {
  settles = new_settles s script n low;
  so = subst (λ (t : TrackTold). SentSo t.commands [] []) (sym (told_new s n low)) (record { released = refl; right = tt; taken = refl });
}

-- in these rounds each track that is reported drained has reached its STOP
abbrev pub AreDrained : Session → List RoundSeen → Type 0
AreDrained s rounds = (track : ℕ) → track < track_count s → WhereDrained (λ run steps sent. HasReachedStop (is_lawful_track rounds track) (consumed_of run track) steps sent) s (new_run s) [] [] rounds track

-- in legal rounds of a script, ended or cut off, each track that is reported drained has reached its STOP
pub rounds-drained : Reaches → (cut : Bool) (s : Session) (marks : Marks) (tracks : ℕ) (rounds : List RoundSeen) → IsScript s.script → All (IsRound tracks) rounds → LegalRounds cut s marks (new_run s) rounds → AreDrained s rounds
rounds-drained reached cut s marks tracks rounds is forms legal track low =
    let calm = λ (lawful : is_lawful_track rounds track ≡ true). not_true (list_any (λ (round : RoundSeen). list_any (is_poke_on true) (calls_in round track)) rounds) (both_right (is_lawful_block false rounds track) (is_lawful_block true rounds track) lawful) in
    rounds_told reached cut s is marks tracks track (is_lawful_track rounds track) rounds (new_run s) [] [] low forms legal calm (new_keeps s track low) (λ lawful. new_sends s track is low)

-- by the end of a legal run each track that is reported drained has reached its STOP
pub drained : Reaches → (script : ScriptData) (files : List (List Frame)) (j : JournalData) → IsScript script → IsLegalRun script files j → EachDrainedTrackReachedItsStop script files j
drained reached script files j is legal = rounds-drained reached false (session_of script files) (marks_of j.rounds) j.tracks j.rounds is legal.rounds.form.rounds legal.rounds.rounds
