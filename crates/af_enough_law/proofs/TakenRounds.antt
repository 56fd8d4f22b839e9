-- A round takes all commands of a track on its course that were sent before it.
use Rattle.std.proofs.Common.{◌≡◌, ℕ, ◌≤◌, Bool, true, false, ◌++◌, length, length-append, take, sym, ap, ◌∙◌, subst, arith}
use Rattle.af_enough_law.proofs.Common.{BlockTold, IsSpelled, LegalRound, Marks, RoundSeen, Run, Session, TrackTold, after_round, client_list, flushes_of, is_tame, met_after, server_list, setup_of, told_at, track_at, track_in, words_taken}
use Rattle.af_enough_law.proofs.Basics.{course_long}
use Rattle.af_enough_law.proofs.CommandRounds.{CommandsTaken, commands_told, commands_taken, commands_counted, commands_known, words_follow, words_begin}
use Rattle.af_enough_law.proofs.Courses.{is_ended}
use Rattle.af_enough_law.proofs.FastWords.{KnowsReleased}
use Rattle.af_enough_law.proofs.NormalRounds.{TurnMade}
use Rattle.af_enough_law.specs.Seen.{frames_put, frames_taken}
use Rattle.af_enough_law.proofs.AwayKeeps.{StaysOpen, looks_open}
use Rattle.af_enough_law.proofs.CourseGoes.{OnCourse, CourseGone}
use Rattle.af_enough_law.proofs.CourseRounds.{course_ends}
use Rattle.af_enough_law.proofs.Flushless.{unflushed_none}
use Rattle.af_enough_law.proofs.Foreseen.{KeepsTo, keeps_to}
use Rattle.af_enough_law.proofs.HomeRounds.{IsNamed}
use Rattle.af_enough_law.proofs.RunTracks.{round_blocks}
use Rattle.af_enough_law.proofs.SentCourse.{follows_any}

-- what the server of a command block took is what was taken of it
abbrev pub IsCounted : Run → ℕ → Type 0
IsCounted run i = frames_taken (server_list (told_at run i).commands) ≡ length (told_at run i).commands.taken

module _ (cut : Bool) (s : Session) (marks : Marks) (run : Run) (round : RoundSeen) (i : ℕ) (t : TurnMade s marks run round) (legal : LegalRound cut s marks run round) (named : IsNamed s marks run i) (runs : t.turn.ended ≡ false) (o : StaysOpen run i) where
  abbrev u : TrackTold
  u = told_at (after_round s run round) i

  same_commands : u.commands ≡ (told_at (met_after s run round) i).commands
  same_commands = (round_blocks s run round i named.low).1

  keeps_then : KeepsTo (after_round s run round) i
  keeps_then = keeps_to cut s marks run round t i named.low named.named legal o.keeps

  size : (told_at (met_after s run round) i).commands.shape.frames ≤ 65536
  size = let a = ap (λ (k : _). k.frames) (commands_told s marks run round t i named.low).shape in let b = o.few in omega (arith, a, b)

  -- after each round the server knows all that was sent before
  pub knows_sent : KnowsReleased u.commands
  knows_sent = subst KnowsReleased (sym same_commands) (commands_known s marks run round t i named.low)

  -- the words that the turn's looks took follow those taken before
  pub words : (told_at (met_after s run round) i).commands.taken ≡ (told_at run i).commands.taken ++ words_taken (track_in t.turn i).looks
  words =
      words_follow s marks run round t i named.low cut legal runs named.lawful named.named named.there (ap is_tame (sym same_commands) ∙ keeps_then.pokeless.commands) size
      (subst (λ (b : BlockTold). IsSpelled b.shape (client_list b)) same_commands keeps_then.spelled.commands)
      (ap (λ (b : BlockTold). flushes_of (client_list b)) (sym same_commands) ∙ unflushed_none (client_list u.commands) keeps_then.flushless.commands) o.is_open

  -- all words that were taken begin those released
  pub begins : (n : ℕ) × (u.commands.taken ≡ take n u.commands.released)
  begins =
      let b = words_begin s marks run round t i named.low cut legal runs named.lawful named.named named.there (ap is_tame (sym same_commands) ∙ keeps_then.pokeless.commands) size
      (subst (λ (b : BlockTold). IsSpelled b.shape (client_list b)) same_commands keeps_then.spelled.commands)
      (ap (λ (b : BlockTold). flushes_of (client_list b)) (sym same_commands) ∙ unflushed_none (client_list u.commands) keeps_then.flushless.commands) o.is_open in
      (b.0, ap (λ (x : BlockTold). x.taken) same_commands ∙ b.1 ∙ ap (λ (x : BlockTold). take b.0 x.released) (sym same_commands))

  pub words_then : u.commands.taken ≡ (told_at run i).commands.taken ++ words_taken (track_in t.turn i).looks
  words_then = ap (λ (b : BlockTold). b.taken) same_commands ∙ words

  -- the count goes on
  pub counted_then : IsCounted run i → IsCounted (after_round s run round) i
  counted_then counted =
      let a = commands_counted s marks run round t i named.low cut legal runs named.lawful named.named named.there (ap is_tame (sym same_commands) ∙ keeps_then.pokeless.commands) size
      (subst (λ (b : BlockTold). IsSpelled b.shape (client_list b)) same_commands keeps_then.spelled.commands)
      (ap (λ (b : BlockTold). flushes_of (client_list b)) (sym same_commands) ∙ unflushed_none (client_list u.commands) keeps_then.flushless.commands) o.is_open in
      let b = ap length words in
      let d = length-append (told_at run i).commands.taken (words_taken (track_in t.turn i).looks) in
      let e = ap (λ (x : BlockTold). frames_taken (server_list x)) same_commands in
      let f = ap (λ (x : BlockTold). length x.taken) same_commands in
      omega (arith, a, b, d, e, f, counted)

  module _ (knows : KnowsReleased (told_at run i).commands) (counted : IsCounted run i) where
    takes : CommandsTaken t.turn i (told_at run i).commands (told_at (met_after s run round) i).commands
    takes =
        commands_taken s marks run round t i named.low cut legal runs named.lawful named.named named.there (ap is_tame (sym same_commands) ∙ keeps_then.pokeless.commands) size
        (subst (λ (b : BlockTold). IsSpelled b.shape (client_list b)) same_commands keeps_then.spelled.commands)
        (ap (λ (b : BlockTold). flushes_of (client_list b)) (sym same_commands) ∙ unflushed_none (client_list u.commands) keeps_then.flushless.commands) o.is_open knows

    -- All words that were sent before the round are taken, of a track that lives and took no more than two commands
    pub all_sent : (on : OnCourse run i) → (gone : CourseGone s marks run round i t on.told) → on.told ≤ 2 → (track_at run.normal.tracks i).life.ended ≡ false → frames_put (client_list (told_at run i).commands) ≡ length (told_at run i).commands.released → on.sent ≤ gone.after.told
    all_sent on gone low alive put =
        let looks = looks_open cut s marks run round i t legal named runs o in
        let few = gone.after.few in
        let within = gone.after.within in
        let next = gone.next in
        let ends : is_ended (track_in t.turn i).looks ≡ true =
        course_ends gone.after.count on.told gone.more (setup_of s) t.by.outside run.normal t.turn i named.there runs (t.by.legal.goes_on runs) (follows_any on.count gone.after.count on.told (track_at run.normal.tracks i) low on.follows) alive (omega (arith, few, within, next)) looks gone.words in
        let reach = takes.reaches ends in
        let sent = ap length on.released ∙ course_long on.count 0 on.sent in
        let all = counted_then counted in
        let same = ap (λ (x : BlockTold). frames_taken (server_list x)) same_commands in
        let told = ap length gone.after.taken ∙ course_long gone.after.count 0 gone.after.told in
        omega (arith, put, sent, reach, all, same, told)
