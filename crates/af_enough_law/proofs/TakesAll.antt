-- A turn takes all commands that were sent before its round.
use Rattle.std.proofs.Common.{◌≡◌, ℕ, ◌≤◌, ◌<◌, Bool, true, false, List, [], ◌∷◌, ◌++◌, length, sym, ap, ◌∙◌, subst, arith, length-append}
use Rattle.af_enough_law.proofs.Common.{BlockTold, ClientEvent, IsSpelled, LegalRound, Marks, RoundSeen, Run, ServerEvent, Session, after_round, client_list, flushes_of, is_tame, met_after, server_list, setup_of, told_at, track_at, track_in, words_taken}
use Rattle.af_base.specs.declared.event.ClientEvent.TheVariants as client
use Rattle.af_base.specs.declared.event.ServerEvent.TheVariants as server
use Rattle.af_enough_law.proofs.Basics.{course_long}
use Rattle.af_enough_law.proofs.CommandRounds.{CommandsTaken, commands_known, commands_taken, words_counted}
use Rattle.af_enough_law.proofs.FastWords.{KnowsReleased}
use Rattle.af_enough_law.proofs.NormalRounds.{TurnMade}
use Rattle.af_enough_law.specs.Seen.{frames_taken}
use Rattle.af_enough_law.proofs.CommandsGo.{CalmCommands, OpenTurn, same_commands, few_after, pokeless_after, flushless_after, spelled_after, words_after}
use Rattle.af_enough_law.proofs.CourseGoes.{OnCourse, CourseGone}
use Rattle.af_enough_law.proofs.CourseRounds.{looks_end}
use Rattle.af_enough_law.proofs.Flushless.{unflushed_none}
use Rattle.af_enough_law.proofs.RunLists.{command_lists}

-- after a meeting client and server of a command block know all that the other one did before it
pub record CommandsMet (run : Run) (i : ℕ) : Type 0 where
  pub did : List ServerEvent
  pub count : ℕ
  pub server : server_list (told_at run i).commands ≡ did ++ server.Learn count ∷ []
  pub said : List ClientEvent
  pub client : client_list (told_at run i).commands ≡ said ++ client.Learn (length did) ∷ []

pub commands_met : (s : Session) (run : Run) (round : RoundSeen) (i : ℕ) → i < length run.tracks → CommandsMet (after_round s run round) i
commands_met s run round i low = let lists = command_lists s run round i low in record { did = lists.did; count = length lists.said; server = lists.server; said = lists.said; client = lists.client }

-- after a round the two have met, and the server knows all words that were sent
pub record CommandsKnown (run : Run) (i : ℕ) : Type 0 where
  pub met : CommandsMet run i
  pub knows : KnowsReleased (told_at run i).commands

-- as many words are told as taken as the takes of the server say
abbrev pub WordsCounted : Run → ℕ → Type 0
WordsCounted run i = frames_taken (server_list (told_at run i).commands) ≡ length (told_at run i).commands.taken

module _ (cut : Bool) (s : Session) (marks : Marks) (run : Run) (round : RoundSeen) (i : ℕ) (t : TurnMade s marks run round) (legal : LegalRound cut s marks run round) (known : List ServerEvent) (calm : CalmCommands run i known) (turn : OpenTurn s marks run round i t) where
  same : (told_at (after_round s run round) i).commands ≡ (told_at (met_after s run round) i).commands
  same = same_commands cut s marks run round i t legal known calm turn

  tame : is_tame (told_at (met_after s run round) i).commands ≡ true
  tame = ap is_tame (sym same) ∙ (pokeless_after cut s marks run round i t legal known calm turn).commands

  spelled : (let b = (told_at (met_after s run round) i).commands in IsSpelled b.shape (client_list b))
  spelled = subst (λ (b : BlockTold). IsSpelled b.shape (client_list b)) same (spelled_after cut s marks run round i t legal known calm turn).commands

  no_flush : flushes_of (client_list (told_at (met_after s run round) i).commands) ≡ 0
  no_flush = ap (λ (b : BlockTold). flushes_of (client_list b)) (sym same) ∙ unflushed_none (client_list (told_at (after_round s run round) i).commands) (flushless_after cut s marks run round i t legal known calm turn).commands

  -- A legal round leaves both ends knowing all that was done before its meeting
  pub known_round : CommandsKnown (after_round s run round) i
  known_round = record { met = commands_met s run round i turn.low; knows = subst KnowsReleased (sym same) (commands_known s marks run round t i turn.low) }

  -- a legal round leaves the words counted
  pub counted_round : WordsCounted run i → WordsCounted (after_round s run round) i
  counted_round had =
      let words = words_after cut s marks run round i t legal known calm turn in
      let long = ap (λ (ws : List ℕ). length ws) words.0 in
      let split = length-append (told_at run i).commands.taken (words_taken (track_in t.turn i).looks) in
      let more = words_counted s marks run round t i turn.low cut legal turn.runs turn.lawful turn.named turn.there tame (few_after cut s marks run round i t legal known calm turn) spelled no_flush calm.is_open in
      let listed = ap (λ (b : BlockTold). frames_taken (server_list b)) same in
      omega (arith, long, split, more, had, listed)

  -- A turn at a track that lives takes all commands that were sent before its round
  pub takes_known : KnowsReleased (told_at run i).commands → WordsCounted run i → (on : OnCourse run i) (gone : CourseGone s marks run round i t on.told) → (track_at run.normal.tracks i).life.ended ≡ false → on.sent ≤ gone.after.told
  takes_known knows had on gone alive =
      let taken : CommandsTaken t.turn i (told_at run i).commands (told_at (met_after s run round) i).commands =
      commands_taken s marks run round t i turn.low cut legal turn.runs turn.lawful turn.named turn.there tame (few_after cut s marks run round i t legal known calm turn) spelled no_flush calm.is_open knows in
      let next = gone.next in
      let within = gone.after.within in
      let few = gone.after.few in
      let ends = looks_end gone.after.count on.told gone.more (setup_of s) t.by.outside run.normal t.turn i turn.there turn.runs (t.by.legal.goes_on turn.runs) on.follows.awaits alive (omega (arith, next, within, few)) taken.open_is gone.words in
      let reaches = taken.reaches ends in
      let took = taken.taken in
      let words = ap (λ (ws : List ℕ). length ws) gone.words in
      let long = course_long gone.after.count on.told gone.more in
      let sent = ap (λ (ws : List ℕ). length ws) on.released in
      let told = ap (λ (ws : List ℕ). length ws) on.taken in
      let sent_long = course_long on.count 0 on.sent in
      let told_long = course_long on.count 0 on.told in
      let put = calm.words in
      omega (arith, reaches, took, words, long, sent, told, sent_long, told_long, put, had, next)
