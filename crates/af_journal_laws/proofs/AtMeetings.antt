-- What is known of a track's block at a meeting of both its proxies: it has a history, so neither proxy is shut.
use Rattle.std.proofs.Common.{◌≡◌, inl, ℕ, ◌<◌, Bool, true, false, if◌then◌else◌, List, length, refl, sym, ap, subst}
use Rattle.af_journal_laws.proofs.Common.{BlockTold, HasBlockHistory, IsFit, IsScript, IsTrim, IsUnshut, Run, Session, Shape, TrackStands, TrackTold, block_on, command_shape, each_track, ends, file_words, is_tame, never_corrupt, never_shut, new_fit as begins_fit, new_history, new_run, new_trim, server_begins, server_list, server_unshut, sides_of, spec_of, stream_shape, told_at, told_each, told_new, track_count, with_ends}
use Rattle.af_audit.proofs.FileReleased.{begins_none}
use Rattle.af_journal_laws.specs.Meetings.{meets_on}
use Rattle.af_journal_laws.proofs.ShutTold.{ever_shut, server_never_shut}
use Rattle.af_journal_laws.proofs.Steps.{Goes}

-- if its proxies met, the block has a history if no poke was recorded
abbrev pub HasHistoryMet : Bool → Session → ℕ → Run → Type 0
HasHistoryMet commands s n run = meets_on commands s run n ≡ true → is_tame (block_on commands (told_at run n)) ≡ true → HasBlockHistory (block_on commands (told_at run n))

-- the clients' ends keep the history of the block
pub history_ends : (commands : Bool) (s : Session) (n : ℕ) (run : Run) → n < length run.tracks → HasHistoryMet commands s n run → HasHistoryMet commands s n (with_ends run)
unfolding with_ends
history_ends commands s n run low h = by_block commands h
  where
    told : told_at (each_track (λ track t. record t { client = ends t.client }) run) n ≡ record (told_at run n) { client = ends (told_at run n).client }
    told = told_each (λ track t. record t { client = ends t.client }) run n low

    by_end : (b x : Bool) → HasHistoryMet b s n run → HasHistoryMet b s n (if x then each_track (λ track t. record t { client = ends t.client }) run else run)
    by_end true true h = λ meets. subst (λ (b : BlockTold). is_tame b ≡ true → HasBlockHistory b) (sym (ap (λ (t : TrackTold). t.commands) told)) (h meets)
    by_end false true h = λ meets. subst (λ (b : BlockTold). is_tame b ≡ true → HasBlockHistory b) (sym (ap (λ (t : TrackTold). t.stream) told)) (h meets)
    by_end b false h = h

    by_block : (b : Bool) → HasHistoryMet b s n run → HasHistoryMet b s n (if run.normal.ended then each_track (λ track t. record t { client = ends t.client }) run else run)
    by_block b h = by_end b run.normal.ended h

-- ## Before the first round

module _ (s : Session) (script : IsScript s.script) (n : ℕ) (low : n < track_count s) where
  pub new_fit : IsFit s n (sides_of (told_at (new_run s) n))
  new_fit = subst (λ (t : TrackTold). IsFit s n (sides_of t)) (sym (told_new s n low)) (begins_fit s script n low)

  pub new_stands : TrackStands (file_words s n) (told_at (new_run s) n)
  new_stands = subst (TrackStands (file_words s n)) (sym (told_new s n low)) (record { file_is = refl; client = record { begins = begins_none (file_words s n); tame = refl }; drops = tt })

  pub history_new : (commands : Bool) → HasHistoryMet commands s n (new_run s)
  history_new true = λ meets tame. subst (λ (t : TrackTold). HasBlockHistory t.commands) (sym (told_new s n low)) (new_history command_shape)
  history_new false = λ meets tame. subst (λ (t : TrackTold). HasBlockHistory t.stream) (sym (told_new s n low)) (new_history (stream_shape s.script.version (spec_of s n)))

-- ## At a meeting

module _ (commands : Bool) (s : Session) (script : IsScript s.script) (n : ℕ) (low : n < track_count s) (run : Run) (words : List ℕ) (S : Type 0) (goes : Goes commands s n (new_run s) run words S)
    (meets : meets_on commands s run n ≡ true) (history : HasHistoryMet commands s n run) where
  abbrev t : TrackTold
  t = told_at run n

  trim : IsTrim commands t
  trim = goes.track.trim (new_trim s script n low commands)

  fit : IsFit s n (sides_of t)
  fit = goes.track.fit (new_fit s script n low)

  pub stands_met_so : commands ≡ false → TrackStands (file_words s n) t
  stands_met_so off = goes.track.stands off (new_stands s script n low)

  tame_so : (b : Bool) → commands ≡ b → is_tame (block_on b t) ≡ true
  tame_so true is = trim.tame is
  tame_so false is = (stands_met_so is).client.tame

  -- the block has a history
  pub has_history : HasBlockHistory (block_on commands t)
  has_history = history meets (tame_so commands refl)

  unshut_by : (b : Bool) → IsTrim b t → HasBlockHistory (block_on b t) → IsUnshut b t
  unshut_by true h history = record {
    client = never_corrupt t.commands.shape fit.commands history fit.spelled.commands;
    server = never_shut t.commands.shape fit.commands history fit.spelled.commands (inl (ap (λ (k : Shape). k.wrap) h.shape));
  }
  unshut_by false h history = record {
    client = never_corrupt t.stream.shape fit.stream history fit.spelled.stream;
    server = server_unshut t.stream fit.stream history fit.spelled.stream h.rears;
  }

  -- neither of the block's proxies is shut
  pub unshut_met_so : IsUnshut commands t
  unshut_met_so = unshut_by commands trim has_history

  -- the server of a stream block was never shut
  pub never_shut_so : commands ≡ false → ever_shut t.stream.shape (server_begins t.stream.shape) (server_list t.stream) ≡ false
  never_shut_so off = server_never_shut t.stream fit.stream (subst (λ (b : Bool). HasBlockHistory (block_on b t)) off has_history) fit.spelled.stream trim.rears

  -- the block was spared by all steps up to here
  pub spared_so : S
  spared_so = (goes.track.unshut (new_trim s script n low commands) unshut_met_so).1
