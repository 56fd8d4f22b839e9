-- In a legal run each block without a poke is spared.
use Rattle.std.proofs.Common.{◌≡◌, ℕ, ◌<◌, Bool, true, false, if◌then◌else◌, List, [], ◌∷◌, length, inl, refl, sym, ap, ◌∙◌, subst, arith}
use Rattle.af_audit.proofs.Common.{All-get_or, BlockTold, Frame, HasBlockHistory, IsLegalRun, IsScript, IsTrack, JournalData, LegalRound, LegalRounds, Marks, RoundSeen, Run, ScriptData, Session, Shape, TrackTold, after_round, all_played, calls_in, command_shape, each_long, each_track, ends, is_lawful_block, is_poke_on, is_tame, list_any, marks_of, met_after, met_many, never_corrupt, never_shut, new_run, new_told_track, no_spec, not_true, run_from, run_of, session_of, sides_of, told_at, told_each, track_count, with_ends}
use Rattle.af_model.specs.ClientCalls as list
use Rattle.af_audit.specs.RunKept.{IsFit}
use Rattle.af_audit.specs.Spared.{EachLawfulBlockIsSpared, IsSpared}
use Rattle.af_audit.proofs.FatesTold.{new_history, new_there, told_new, track_has_fates}
use Rattle.af_audit.proofs.RearsSeen.{server_unshut}
use Rattle.af_audit.proofs.RunUnshut.{Spares, spares_rounds}
use Rattle.af_audit.proofs.SidesKept.{fit_round, played_many}
use Rattle.af_audit.proofs.TrackUnshut.{IsTrim, IsUnshut}

-- ## What is kept of a run

-- the track's client keeps to its calls, and its command block has a history if no poke was recorded
record StandsSo (s : Session) (n : ℕ) (run : Run) : Type 0 where
  there : n < length run.tracks
  fit : IsFit s n (sides_of (told_at run n))
  history : is_tame (told_at run n).commands ≡ true → HasBlockHistory (told_at run n).commands

pub ends_many : (run : Run) → length (with_ends run).tracks ≡ length run.tracks
unfolding with_ends
ends_many run = by_end run.normal.ended
  where
    by_end : (b : Bool) → length (if b then each_track (λ track t. record t { client = ends t.client }) run else run).tracks ≡ length run.tracks
    by_end true = each_long (λ track t. record t { client = ends t.client }) 0 run.tracks
    by_end false = refl

ends_history : (run : Run) (n : ℕ) → n < length run.tracks → (is_tame (told_at run n).commands ≡ true → HasBlockHistory (told_at run n).commands) → is_tame (told_at (with_ends run) n).commands ≡ true → HasBlockHistory (told_at (with_ends run) n).commands
unfolding with_ends
ends_history run n low h = by_end run.normal.ended
  where
    by_end : (b : Bool) → (let r : Run = if b then each_track (λ track t. record t { client = ends t.client }) run else run in is_tame (told_at r n).commands ≡ true → HasBlockHistory (told_at r n).commands)
    by_end true = subst (λ (b : BlockTold). is_tame b ≡ true → HasBlockHistory b) (sym (ap (λ (t : TrackTold). t.commands) (told_each (λ track t. record t { client = ends t.client }) run n low))) h
    by_end false = h

-- a legal round keeps what `StandsSo` says of a run
round_so : (cut : Bool) (s : Session) (marks : Marks) (n : ℕ) (run : Run) (round : RoundSeen) → n < track_count s → LegalRound cut s marks run round → StandsSo s n run → StandsSo s n (after_round s run round)
round_so cut s marks n run round low legal h =
    let played = all_played s run round in
    let many : length (met_after s run round).tracks ≡ length run.tracks = met_many s played ∙ played_many s run round in
    let there : n < length (met_after s run round).tracks = (let t = h.there in omega (arith, many, t)) in
    record {
      there = (let m = ends_many (met_after s run round) in omega (arith, m, there));
      fit = fit_round s run round n h.there (legal.turns.clients n low) h.fit;
      history = ends_history (met_after s run round) n there (λ tame. (legal.histories.blocks n low).commands refl tame);
    }

rounds_so : (cut : Bool) (s : Session) (marks : Marks) (n : ℕ) (rounds : List RoundSeen) (run : Run) → n < track_count s → LegalRounds cut s marks run rounds → StandsSo s n run → StandsSo s n (run_from s run rounds)
rounds_so cut s marks n [] run low legal h = h
rounds_so cut s marks n (round ∷ rounds) run low legal h = rounds_so cut s marks n rounds (after_round s run round) low legal.1 (round_so cut s marks n run round low legal.0 h)

-- ## Before the first round

module _ (s : Session) (script : IsScript s.script) (n : ℕ) (low : n < track_count s) where
  pub new_fit : IsFit s n (sides_of (new_told_track s n))
  new_fit = record {
    file = refl;
    spelled = record { stream = list.begins; commands = list.begins };
    stream = (let b = (All-get_or IsTrack s.script.tracks n no_spec low script.tracks).buffer in omega (arith, b.1));
    commands = omega arith;
  }

  new_so : StandsSo s n (new_run s)
  new_so = record {
    there = new_there s n low;
    fit = subst (λ (t : TrackTold). IsFit s n (sides_of t)) (sym (told_new s n low)) new_fit;
    history = λ tame. subst (λ (t : TrackTold). HasBlockHistory t.commands) (sym (told_new s n low)) (new_history command_shape);
  }

  pub new_trim : (commands : Bool) → IsTrim commands (told_at (new_run s) n)
  new_trim commands = subst (IsTrim commands) (sym (told_new s n low)) (record { rears = tt; tame = λ on. refl; shape = refl })

-- ## At the end

-- in a legal run of a script each block without a poke is spared
pub lawful-blocks-are-spared : (script : ScriptData) (files : List (List Frame)) (j : JournalData) → IsScript script → IsLegalRun script files j → EachLawfulBlockIsSpared script files j
lawful-blocks-are-spared script files j is legal commands track low lawful = (spares.unshut new (by_block commands lawful trim)).1
  where
    s : Session
    s = session_of script files

    t : TrackTold
    t = told_at (run_of script files j) track

    so : StandsSo s track (run_of script files j)
    so = rounds_so false s (marks_of j.rounds) track j.rounds (new_run s) low legal.rounds.rounds (new_so s is track low)

    calm : commands ≡ true → list_any (λ (round : RoundSeen). list_any (is_poke_on true) (calls_in round track)) j.rounds ≡ false
    calm on = not_true (list_any (λ (round : RoundSeen). list_any (is_poke_on true) (calls_in round track)) j.rounds) (subst (λ (b : Bool). is_lawful_block b j.rounds track ≡ true) on lawful)

    spares : Spares commands track (new_run s) (run_of script files j) (IsSpared commands s (new_run s) j.rounds track)
    spares = spares_rounds commands false s (marks_of j.rounds) j.tracks track j.rounds (new_run s) low (new_there s track low) legal.rounds.form.rounds legal.rounds.rounds calm

    new : IsTrim commands (told_at (new_run s) track)
    new = new_trim s is track low commands

    trim : IsTrim commands t
    trim = spares.trim new

    -- a block that has a history has no proxy that is shut
    by_block : (b : Bool) → is_lawful_block b j.rounds track ≡ true → IsTrim b t → IsUnshut b t
    by_block true is h = let history = so.history (h.tame refl) in record {
      client = never_corrupt t.commands.shape so.fit.commands history so.fit.spelled.commands;
      server = never_shut t.commands.shape so.fit.commands history so.fit.spelled.commands (inl (ap (λ (k : Shape). k.wrap) h.shape));
    }
    by_block false is h = let history = (track_has_fates script files j legal track low is).history in record {
      client = never_corrupt t.stream.shape so.fit.stream history so.fit.spelled.stream;
      server = server_unshut t.stream so.fit.stream history so.fit.spelled.stream h.rears;
    }
