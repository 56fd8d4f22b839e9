-- A round brings a track nearer to the end of its life: how many rounds it takes at most from where it is.
use Rattle.std.proofs.Common.{◌≡◌, ◌⊎◌, inl, inr, ℕ, zero, suc, ◌+◌, ◌-◌, ◌*◌, ◌≤◌, min, Bool, true, false, List, [], ◌∷◌, ◌++◌, length, refl, sym, ap, ◌∙◌, subst, arith, if◌then◌else◌}
use Rattle.af_enough_law.proofs.Common.{ClientEvent, Heard, LegalRound, Life, Marks, RoundSeen, Run, ServerEvent, Session, TrackTold, after_round, by_report, calls_in, client_list, heard, learnt, met_after, server_list, sides_of, takes_part, told_at, track_at, track_in}
use Rattle.af_base.specs.declared.event.ClientEvent.TheVariants as client
use Rattle.af_base.specs.declared.event.ServerEvent.TheVariants as server
use Rattle.af_enough_law.proofs.Basics.{course_long}
use Rattle.af_enough_law.proofs.Courses.{course, Course, absent, idle, playing, stopping as stopping_life, drained as drained_life, stopped as stopped_life, over as has_ended, stage, told_words}
use Rattle.af_enough_law.proofs.FastWords.{KnowsReleased}
use Rattle.af_enough_law.proofs.NearWords.{RoundFlows}
use Rattle.af_enough_law.proofs.NormalRounds.{TurnMade}
use Rattle.af_enough_law.proofs.Playing.{AreFair}
use Rattle.af_enough_law.specs.Seen.{frames_put, frames_taken}
use Rattle.af_enough_law.proofs.Advancing.{IsBlock}
use Rattle.af_enough_law.proofs.BlockNumbers.{BlockNumbers, block_numbers}
use Rattle.af_enough_law.proofs.CalmTracks.{CalmTrack, CalmTurn, round_released}
use Rattle.af_enough_law.proofs.CommandsGo.{CalmCommands, OpenTurn}
use Rattle.af_enough_law.proofs.CourseGoes.{OnCourse, CourseGone}
use Rattle.af_enough_law.proofs.Coursing.{stage_reported}
use Rattle.af_enough_law.proofs.FlowRounds.{InFlow}
use Rattle.af_enough_law.proofs.Following.{greeted_in, greeted_alike}
use Rattle.af_enough_law.proofs.SeesStopped.{spoken_long}
use Rattle.af_enough_law.proofs.StopCounts.{StopCounts}
use Rattle.af_enough_law.proofs.RemoveRounds.{told_three}
use Rattle.af_enough_law.proofs.TakesAll.{CommandsKnown, WordsCounted, takes_known}
use Rattle.af_enough_law.proofs.Turning.{Stands}

-- ## Where a track is

-- So many rounds at most are left of a track's life: it has ended; its REMOVE was sent; it has stopped; all that was put is consumed and the mixer knows it; all that was put is taken; its STOP was sent, and so many portions are in its block; it flows, and so many portions are due
pub data Nearing (run : Run) (i q full total : ℕ) (n : ℕ) : Type 0 where
  over : (track_at run.normal.tracks i).life.ended ≡ true → Nearing run i q full total n
  removed : 8 ≤ length (told_at run i).commands.released → 1 ≤ n → Nearing run i q full total n
  stopped : 6 ≤ length (told_at run i).commands.released → stage (track_at run.normal.tracks i).life ≡ 3 → 2 ≤ n → Nearing run i q full total n
  drained : 6 ≤ length (told_at run i).commands.released → 2 ≤ stage (track_at run.normal.tracks i).life → 3 ≤ n → Nearing run i q full total n
  emptied : 6 ≤ length (told_at run i).commands.released → 1 ≤ stage (track_at run.normal.tracks i).life → frames_put (client_list (told_at run i).stream) ≤ frames_taken (server_list (told_at run i).stream) → 4 ≤ n → Nearing run i q full total n
  stopping : 6 ≤ length (told_at run i).commands.released → (d : ℕ) → 1 ≤ d → frames_put (client_list (told_at run i).stream) ≤ frames_taken (server_list (told_at run i).stream) + q * d → d + 4 ≤ n → Nearing run i q full total n
  flowing : (most due m : ℕ) → InFlow run i q most total due → due ≤ q * m → frames_put (client_list (told_at run i).stream) ≤ frames_taken (server_list (told_at run i).stream) + q * full → m + full + 5 ≤ n → Nearing run i q full total n

-- ## What a round is to give

-- a turn hears of what was taken before its round, and maybe of more
abbrev pub RoundHears : (s : Session) (marks : Marks) (run : Run) (round : RoundSeen) (i : ℕ) → TurnMade s marks run round → Type 0
RoundHears s marks run round i t = min 9223372036854775807 (frames_taken (server_list (told_at run i).stream)) ≤ (heard (learnt t.by.outside) i (greeted_in run.normal t.turn i)).known.consumed

-- what a round gives the stream of a track that plays or is to be drained: its proxy takes part in the meeting, the track isn't disabled, and it flows and is heard
pub record StreamRound (s : Session) (marks : Marks) (run : Run) (round : RoundSeen) (i : ℕ) (t : TurnMade s marks run round) : Type 0 where
  pub part : takes_part s (met_after s run round) i ≡ true
  pub able : (track_in t.turn i).disabled ≡ false
  pub known_stream : List ServerEvent
  pub known_commands : List ServerEvent
  pub calm : CalmTrack run i known_stream known_commands
  pub flows : RoundFlows s run round i
  pub hears : RoundHears s marks run round i t

-- what a round gives the track: it goes on along its course, its client on its way, and what the client is answered is fair
pub record TrackRound (s : Session) (marks : Marks) (run : Run) (round : RoundSeen) (i : ℕ) (t : TurnMade s marks run round) : Type 0 where
  pub turn : OpenTurn s marks run round i t
  pub on : OnCourse run i
  pub gone : CourseGone s marks run round i t on.told
  pub known_commands : List ServerEvent
  pub commands : CalmCommands run i known_commands
  pub most : ℕ
  pub total : ℕ
  pub stands : Stands (sides_of (told_at run i)) most total
  pub stands_then : Stands (sides_of (told_at (after_round s run round) i)) most total
  pub fair : AreFair (calls_in round i)
  pub stream : (track_at run.normal.tracks i).life.ended ≡ false → (track_at (after_round s run round).normal.tracks i).life.ended ≡ false → stage (track_at run.normal.tracks i).life ≤ 1 → StreamRound s marks run round i t

-- at the last meeting both ends of the stream block learnt of all that the other one had done
pub record StreamMet (run : Run) (i : ℕ) : Type 0 where
  pub did : List ServerEvent
  pub count : ℕ
  pub server : server_list (told_at run i).stream ≡ did ++ server.Learn count ∷ []
  pub said : List ClientEvent
  pub client : client_list (told_at run i).stream ≡ said ++ client.Learn (length did) ∷ []
  pub released : KnowsReleased (told_at run i).stream

-- what is counted of a track's blocks, from the first round on: how the stream block is made, and what its client sent and its server took
pub record BlockCounts (run : Run) (i N base : ℕ) : Type 0 where
  pub size : (told_at run i).stream.shape.frames ≡ N
  pub base_is : (told_at run i).stream.shape.base ≡ base
  pub block : IsBlock (sides_of (told_at run i))
  pub counts : StopCounts (sides_of (told_at run i))
  pub counted : WordsCounted run i

-- what is counted once the track's START is settled: what was learnt at the last meeting as well
pub record BlockKept (run : Run) (i N base : ℕ) : Type 0 where
  pub block : BlockCounts run i N base
  pub started : 2 ≤ (track_at run.normal.tracks i).settled
  pub known : CommandsKnown run i
  pub met : (track_at run.normal.tracks i).life.ended ≡ false → stage (track_at run.normal.tracks i).life ≤ 1 → StreamMet run i

-- ## Lives

pub course_over : (count k : ℕ) (l : Life) → k ≡ 4 → Course count k l → l.ended ≡ true
course_over count k l is absent = absurd (let z : ⊥ = omega (arith, is) in z)
course_over count k l is idle = absurd (let z : ⊥ = omega (arith, is) in z)
course_over count k l is (playing retries a b) = absurd (let z : ⊥ = omega (arith, is) in z)
course_over count k l is (stopping_life retries) = absurd (let z : ⊥ = omega (arith, is) in z)
course_over count k l is (drained_life retries) = absurd (let z : ⊥ = omega (arith, is) in z)
course_over count k l is (stopped_life retries) = absurd (let z : ⊥ = omega (arith, is) in z)
course_over count k l is (has_ended life e) = e

-- three or four commands: a life on its way to a stop, or one that has ended
course_stops : (count k : ℕ) (l : Life) → 3 ≤ k → k ≤ 4 → Course count k l → (l.ended ≡ true) ⊎ (1 ≤ stage l)
course_stops count k l low high absent = absurd (let z : ⊥ = omega (arith, low) in z)
course_stops count k l low high idle = absurd (let z : ⊥ = omega (arith, low) in z)
course_stops count k l low high (playing retries a b) = absurd (let z : ⊥ = omega (arith, low) in z)
course_stops count k l low high (stopping_life retries) = inr (omega arith)
course_stops count k l low high (drained_life retries) = inr (omega arith)
course_stops count k l low high (stopped_life retries) = inr (omega arith)
course_stops count k l low high (has_ended life e) = inl e

-- in numbers: a portion less is in a block in which nothing is put
pub drains_by : (N Q q put taken taken' d : ℕ) → q ≡ min N Q → put ≤ taken + q * suc d → taken + min (put - taken) Q ≤ taken' → put ≤ taken' + q * d
drains_by N Q q put taken taken' d least fits takes = let split : q * suc d ≡ q * d + q = search arith in omega (arith, least, fits, takes, split)

pub due_falls : (q left due m : ℕ) → left + q ≤ due → due ≤ q * suc m → left ≤ q * m
due_falls q left due m le fits = let split : q * suc m ≡ q * m + q = search arith in omega (arith, le, fits, split)

-- ## A round

module _ (cut : Bool) (s : Session) (marks : Marks) (run : Run) (round : RoundSeen) (i : ℕ) (t : TurnMade s marks run round) (legal : LegalRound cut s marks run round) (N base : ℕ) (kept : BlockKept run i N base) (r : TrackRound s marks run round i t) where
  abbrev b : TrackTold
  b = told_at run i

  abbrev u : TrackTold
  u = told_at (after_round s run round) i

  abbrev life : Life
  life = (track_at run.normal.tracks i).life

  abbrev life_then : Life
  life_then = (track_at (after_round s run round).normal.tracks i).life

  abbrev h : Heard
  h = heard (learnt t.by.outside) i (greeted_in run.normal t.turn i)

  -- a life that has ended stays so
  pub over_then : life.ended ≡ true → life_then.ended ≡ true
  over_then e = ap (λ (l : Life). l.ended) (r.gone.life ∙ ap (λ (d : Bool). if d then life else by_report h.known (told_words (course r.gone.after.count r.on.told r.gone.more) life)) e) ∙ e

  life_is : life.ended ≡ false → life_then ≡ by_report h.known (told_words (course r.gone.after.count r.on.told r.gone.more) life)
  life_is alive = r.gone.life ∙ ap (λ (d : Bool). if d then life else by_report h.known (told_words (course r.gone.after.count r.on.told r.gone.more) life)) alive

  open_is : life.ended ≡ false → h.known.shut ≡ false
  open_is alive = r.turn.unshut (ap (λ (l : Life). l.ended) (greeted_alike t.turn.ack run.normal.last (track_at run.normal.tracks i)).life ∙ alive)

  -- no word is taken back
  pub rises : length b.commands.released ≤ length u.commands.released
  rises = let a = spoken_long (sides_of b) (calls_in round i) r.fair in let c = ap (λ (ws : List ℕ). length ws) (round_released s run round i r.turn.low) in omega (arith, a, c)

  pub sent_by : length b.commands.released ≡ 2 * r.on.sent
  sent_by = ap (λ (ws : List ℕ). length ws) r.on.released ∙ course_long r.on.count 0 r.on.sent

  -- the turn takes what was sent before
  pub takes : life.ended ≡ false → r.on.sent ≤ r.gone.after.told
  takes alive = takes_known cut s marks run round i t legal r.known_commands r.commands r.turn kept.known.knows kept.block.counted r.on r.gone alive

  told_few : r.gone.after.told ≤ 4
  told_few = let a = r.gone.after.within in let c = r.gone.after.few in omega (arith, a, c)

  pub removes : life.ended ≡ false → 8 ≤ length b.commands.released → life_then.ended ≡ true
  removes alive eight =
      let a = takes alive in
      let c = sent_by in
      let few = told_few in
      course_over r.gone.after.count r.gone.after.told life_then (omega (arith, a, c, few, eight)) r.gone.after.follows.course

  pub stops : life.ended ≡ false → 6 ≤ length b.commands.released → (life_then.ended ≡ true) ⊎ (1 ≤ stage life_then)
  stops alive six =
      let a = takes alive in
      let c = sent_by in
      course_stops r.gone.after.count r.gone.after.told life_then (omega (arith, a, c, six)) told_few r.gone.after.follows.course

  -- what the report makes of a life on its way to a stop
  pub reports : life.ended ≡ false → 1 ≤ stage life → (life_then.ended ≡ true) ⊎ ((stage life ≤ stage life_then) × (r.on.count ≤ h.known.consumed → min 3 (stage life + 1) ≤ stage life_then) × (2 ≤ stage life → stage life_then ≡ 3))
  reports alive some = by r.gone.more refl
    where
      three : r.on.told ≡ 3
      three = told_three r.on.count r.on.told life r.on.follows.course alive some

      by : (more : ℕ) → r.gone.more ≡ more → (life_then.ended ≡ true) ⊎ ((stage life ≤ stage life_then) × (r.on.count ≤ h.known.consumed → min 3 (stage life + 1) ≤ stage life_then) × (2 ≤ stage life → stage life_then ≡ 3))
      by zero none =
          let there : Course r.on.count 3 life = subst (λ (n : ℕ). Course r.on.count n life) three r.on.follows.course in
          let is : life_then ≡ by_report h.known life = life_is alive ∙ ap (λ (n : ℕ). by_report h.known (told_words (course r.gone.after.count r.on.told n) life)) none in
          let goes = stage_reported r.on.count h.known life (open_is alive) there in
          inr (subst (λ (l : Life). (stage life ≤ stage l) × (r.on.count ≤ h.known.consumed → min 3 (stage life + 1) ≤ stage l) × (2 ≤ stage life → stage l ≡ 3)) (sym is) goes)
      by (suc more) some_more =
          let next = r.gone.next in
          let few = told_few in
          let e = three in
          inl (course_over r.gone.after.count r.gone.after.told life_then (omega (arith, next, some_more, few, e)) r.gone.after.follows.course)

  -- the numbers of the stream block
  pub calm_turn : StreamRound s marks run round i t → CalmTurn s marks run round i t
  calm_turn st = record { low = r.turn.low; named = r.turn.named; there = r.turn.there; lawful = r.turn.lawful; runs = r.turn.runs; part = st.part; unshut = r.turn.unshut }

  pub numbers : StreamRound s marks run round i t → BlockNumbers s run round i
  numbers st = block_numbers cut s marks run round i t (calm_turn st) legal st.known_stream st.known_commands st.calm st.able
