-- The rounds in which a proxy is lent and on its way: what the turns hear of it, and what they leave.
use Rattle.std.proofs.Common.{◌≡◌, ℕ, ◌+◌, ◌≤◌, ◌<◌, unwrap_or, if◌then◌else◌, Bool, true, false, All, Option, length, refl, sym, ap, ◌∙◌, subst, arith, inl, is_some, Some}
use Rattle.af_enough_law.proofs.Common.{FastState, FastTrack, Heard, LegalRound, Lent, Marks, NormalKept, RoundSeen, Run, Session, Setting, Shape, SlotReport, TrackKept, Turn, after_round, after_turn, before_turn, carries, early_of, heard, heard_at_home, heard_by, heard_elsewhere, is_home, late_of, learnt, number_of, server_list, setup_of, slot_of, slot_reported, slots, state_of, told_at, track_at, track_count, track_in, turn_after, with_calls, with_cycles}
use Rattle.af_enough_law.proofs.Basics.{stays_home}
use Rattle.af_enough_law.proofs.Carried.{SessionStands}
use Rattle.af_enough_law.proofs.Courses.{none_shut}
use Rattle.af_enough_law.proofs.Drafts.{is_busy}
use Rattle.af_enough_law.proofs.FastWords.{Plays, KnowsReports, slot_told, HasItem, KnowsStates}
use Rattle.af_enough_law.proofs.NormalRounds.{TurnMade}
use Rattle.af_enough_law.proofs.AdoptRounds.{away_heard}
use Rattle.af_enough_law.proofs.AwayKeeps.{StaysOpen, away_turn, looks_open}
use Rattle.af_enough_law.proofs.AwayRounds.{AwayTurn}
use Rattle.af_enough_law.proofs.FoundReports.{found_reported}
use Rattle.af_enough_law.proofs.FastRounds.{over}
use Rattle.af_enough_law.proofs.RunTracks.{calls_long as calls_length, cycles_long}
use Rattle.af_enough_law.proofs.Following.{greeted_in}
use Rattle.af_enough_law.proofs.Foreseen.{Foreseen, early_quiet, home_unshut}
use Rattle.af_enough_law.proofs.Generations.{Attached, greeted_lent, greeted_same}
use Rattle.af_enough_law.proofs.HomeRounds.{IsNamed}
use Rattle.af_enough_law.proofs.Lending.{IsLending, WasOpen, LentBy, open_now, open_still, lent_now, lent_still, lending_draft, busy_same, free_plays}
use Rattle.af_enough_law.proofs.MeetReports.{SaysOpenOf}
use Rattle.af_enough_law.proofs.MeetRounds.{HaveTrack, round_says, Meeting, meets_open, named_at}
use Rattle.af_enough_law.proofs.RipeRounds.{IsRipe, round_generation}
use Rattle.af_enough_law.proofs.RoundCalm.{turned_quiet, lie_through}
use Rattle.af_enough_law.proofs.SessionRounds.{turn_of, turn_runs}
use Rattle.af_enough_law.proofs.SlotReports.{Carry}
use Rattle.af_enough_law.proofs.StreamCalm.{IsQuiet}
use Rattle.af_enough_law.proofs.LentRounds.{draft_item}
use Rattle.af_enough_law.proofs.LentTurns.{turn_leaves}
use Rattle.af_enough_law.proofs.LeftEntries.{HasOrOut}
use Rattle.af_enough_law.proofs.FastFound.{plays_item}
use Rattle.af_enough_law.proofs.StatesHold.{states_all, beyond_draft}

-- ## After a turn

-- the server of a stream is calm after the turn of a round, if its lists lie in a later history
pub turn_calm : (s : Session) (marks : Marks) (run : Run) (round : RoundSeen) (i : ℕ) → i < length run.tracks → LegalRound false s marks run round → (t : TurnMade s marks run round) → none_shut (track_in t.turn i).looks ≡ true → (seen : Foreseen (told_at (after_round s run round) i).stream)
    → IsQuiet (told_at run i).stream.shape (server_list (told_at run i).stream) → IsQuiet (told_at (after_round s run round) i).stream.shape (server_list (told_at (after_turn s run round) i).stream)
turn_calm s marks run round i low legal t looks seen quiet =
    let o = over s run round i low in
    let k : Shape = (told_at (after_round s run round) i).stream.shape in
    let late : Run = with_cycles s (late_of run round) (after_turn s run round) in
    let lies = lie_through s run round i low k seen.list seen.events seen.setting seen.lies in
    let b = calls_length round run in
    let c = cycles_long s (early_of run round) (with_calls round run) in
    turned_quiet s marks i k seen.list seen.events seen.setting run round low legal.turns.normal
    (λ e is. let same : t.turn ≡ e = ap (λ (x : Option Turn). unwrap_or x t.turn) (sym t.is ∙ is) in subst (λ (e : Turn). none_shut (track_in e i).looks ≡ true) same looks)
    (omega (arith, b, c, low)) lies.turned o.turn (early_quiet false s marks run round i low legal seen quiet)

-- what a proxy at home has learnt is what is heard of it
own_heard : (own : Heard) (r : SlotReport) (g : TrackKept) → is_home g.holder ≡ true → (heard_by own r g).known.shut ≡ false → own.known.shut ≡ false
unfolding heard_by
own_heard own r g home unshut = sym (ap (λ (b : Bool). (if b then heard_at_home own g else heard_elsewhere r g).known.shut) home) ∙ unshut

-- ## What stands of a proxy on its way

-- a track's proxy is lent, and no state pushed and no report so far has it
pub record Unpushed (s : Session) (run : Run) (i slot : ℕ) (item : FastTrack) : Type 0 where
  pub lending : IsLending s run i slot item
  pub fresh : Carry s slot lending.low (λ g. g + 1 ≤ item.generation) run
  pub told : (slot_told run slot).generation + 1 ≤ item.generation

-- a track's proxy is lent, and the last state pushed plays the track
pub record PushedLast (s : Session) (run : Run) (i slot : ℕ) (item : FastTrack) : Type 0 where
  pub lending : IsLending s run i slot item
  pub some : 1 ≤ length run.states
  pub last : Plays slot item run.normal.last

-- states without this generation
have_none : (s : Session) (marks : Marks) (i slot : ℕ) (item : FastTrack) (low : slot < slots) (run : Run) → Carry s slot low (λ g. g + 1 ≤ item.generation) run → HaveTrack s marks i slot item low run
have_none s marks i slot item low run fresh k z at carried same = let a = fresh k z at carried in absurd (let z : ⊥ = omega (arith, a, same) in z)

says_none : (item : FastTrack) (r : SlotReport) → r.generation + 1 ≤ item.generation → SaysOpenOf item r
says_none item r less same = absurd (let z : ⊥ = omega (arith, less, same) in z)

-- ## The rounds

module _ (s : Session) (marks : Marks) (scales : All (λ (x : Setting). x.scale ≤ 4096) (setup_of s).settings) (long : length (setup_of s).settings ≡ track_count s) (run : Run) (round : RoundSeen) (legal : LegalRound false s marks run round) (c : SessionStands s run) (i : ℕ) (named : i < track_count s)
    (stays : (track_at (after_round s run round).normal.tracks i).holder ≡ Lent) where
  abbrev t : TurnMade s marks run round
  t = turn_of s marks scales long run round legal c

  goes : t.turn.ended ≡ false
  goes = turn_runs s marks scales long run round legal c

  abbrev after : Run
  after = after_round s run round

  abbrev g : TrackKept
  g = greeted_in run.normal t.turn i

  -- what a round leaves of a proxy on its way, by whether the push was busy: a state that has it is still to be pushed, or was pushed
  pub data OnWay (slot : ℕ) (item : FastTrack) : Type 0 where
    to_push : is_busy t.turn.push ≡ true → Unpushed s after i slot item → OnWay slot item
    pushed : is_busy t.turn.push ≡ false → PushedLast s after i slot item → OnWay slot item

  on_way : (slot : ℕ) (item : FastTrack) → (l : IsLending s after i slot item) → Carry s slot l.low (λ g. g + 1 ≤ item.generation) run → (slot_told run slot).generation + 1 ≤ item.generation → OnWay slot item
  on_way slot item l fresh told = by (is_busy t.turn.push) refl
    where
      by : (b : Bool) → is_busy t.turn.push ≡ b → OnWay slot item
      by true busy =
          let same = (busy_same s marks scales long run round legal c i named busy).0 in
          let fresh_then : Carry s slot l.low (λ g. g + 1 ≤ item.generation) after = λ k z at. fresh k z (ap (λ xs. state_of xs k) (sym same) ∙ at) in
          to_push busy (record { lending = l; fresh = fresh_then; told = round_generation s marks run round legal slot l.low (λ g. g + 1 ≤ item.generation) fresh_then fresh told })
      by false free = let p = free_plays s marks scales long run round legal c i named slot item l free in pushed free (record { lending = l; some = p.0; last = p.1 })

  -- a turn that lends the proxy, of which no state before had the generation
  pub record Lends : Type 0 where
    pub slot : ℕ
    pub item : FastTrack
    pub lending : IsLending s after i slot item
    pub fresh : Carry s slot lending.low (λ g. g + 1 ≤ item.generation) run
    pub told : (slot_told run slot).generation + 1 ≤ item.generation
    pub way : OnWay slot item

  pub lends : is_home (track_at run.normal.tracks i).holder ≡ true → ((n : ℕ) (low : n < slots) → IsRipe s run n low) → Lends
  lends home ripe =
      let b : LentBy s marks scales long run round legal c i named = lent_now s marks scales long run round legal c i named home stays in
      let r = ripe b.slot b.lending.low in
      let anew = b.fresh in
      let told = r.told in
      let fresh : Carry s b.slot b.lending.low (λ g. g + 1 ≤ b.item.generation) run = λ k z at carried. let a = r.states k z at carried in omega (arith, a, anew) in
      let less : (slot_told run b.slot).generation + 1 ≤ b.item.generation = omega (arith, told, anew) in
      record { slot = b.slot; item = b.item; lending = b.lending; fresh = fresh; told = less; way = on_way b.slot b.item b.lending fresh less }

  -- a turn that leaves the proxy on its way
  pub waits : (slot : ℕ) (item : FastTrack) → Unpushed s run i slot item → OnWay slot item
  waits slot item u = on_way slot item (lent_still s marks scales long run round legal c i named slot item u.lending stays) u.fresh u.told

  -- ## What the turn hears

  module _ (lawful : marks.commands i ≡ true) (o : StaysOpen run i) (quiet : IsQuiet (told_at run i).stream.shape (server_list (told_at run i).stream)) (two : 2 ≤ (track_at run.normal.tracks i).life.retries) (seen : Foreseen (told_at (after_round s run round) i).stream) where
    pub numbers : IsNamed s marks run i
    numbers = record { low = (let a = c.tracks in omega (arith, a, named)); named = named; there = (let a = c.kept in omega (arith, a, named)); lawful = lawful }

    looks : none_shut (track_in t.turn i).looks ≡ true
    looks = looks_open false s marks run round i t legal numbers goes o

    turned : IsQuiet (told_at after i).stream.shape (server_list (told_at (after_turn s run round) i).stream)
    turned = turn_calm s marks run round i numbers.low legal t looks seen quiet

    -- if no state before the round has the attachment, the last report after it says that the server is open
    pub says_after : (slot : ℕ) (item : FastTrack) → (l : IsLending s after i slot item) → Carry s slot l.low (λ g. g + 1 ≤ item.generation) run → (slot_told run slot).generation + 1 ≤ item.generation → SaysOpenOf item (slot_told after slot)
    says_after slot item l fresh told =
        let plays = lending_draft s marks scales long run round legal c i named slot item l in
        let track_is : item.track ≡ i = ap (λ (x : FastTrack). x.track) l.item_is in
        round_says s marks i slot item l.low run round legal numbers.low (have_none s marks i slot item l.low run fresh)
        (states_all s marks scales long run round legal c (λ z. carries z slot ≡ true → (slot_of z slot).generation ≡ item.generation → (slot_of z slot).track ≡ i) (have_none s marks i slot item l.low run fresh) (λ pushed carried same. ap (λ (x : FastTrack). x.track) plays.is ∙ track_is))
        seen quiet turned (says_none item (slot_told run slot) told)

    module _ (home : is_home (track_at run.normal.tracks i).holder ≡ true) where
      greeted : is_home g.holder ≡ true
      greeted = stays_home t.turn.ack run.normal.last (track_at run.normal.tracks i) home

      unshut : (heard (learnt t.by.outside) i g).known.shut ≡ false
      unshut = home_unshut false s marks run round i numbers.low legal seen t quiet greeted

      -- the round in which the proxy is lent is judged later
      pub lends_turn : AwayTurn s marks run round i t
      lends_turn = away_turn false s marks run round i t legal numbers goes o seen quiet two (λ alive. unshut)

      pub lends_open : WasOpen after i
      lends_open = open_now s marks scales long run round legal c i named home stays (own_heard ((learnt t.by.outside).own i) (slot_reported (learnt t.by.outside) g) g greeted unshut)

    -- the round in which the proxy waits for its push is judged later
    module _ (states : KnowsStates s run) (reports : KnowsReports run) (slot : ℕ) (item : FastTrack) (u : Unpushed s run i slot item) (was : WasOpen run i) where
      pub waits_open : WasOpen after i
      waits_open = open_still s marks scales long run round legal c i named u.lending.lent was

      pub waits_turn : AwayTurn s marks run round i t
      waits_turn = away_turn false s marks run round i t legal numbers goes o seen quiet two (λ alive. away_heard ((learnt t.by.outside).own i) (slot_reported (learnt t.by.outside) g) g away report (ap (λ (h : Heard). h.known.shut) alike.at_attach ∙ was))
        where
          alike : Attached (track_at run.normal.tracks i) g
          alike = greeted_same t.turn.ack run.normal.last (track_at run.normal.tracks i)

          away : is_home g.holder ≡ false
          away = ap is_home (greeted_lent t.turn.ack run.normal.last (track_at run.normal.tracks i) u.lending.lent)

          still : IsLending s after i slot item
          still = lent_still s marks scales long run round legal c i named slot item u.lending stays

          slot_next : is_some (track_at (turn_after (setup_of s) (learnt t.by.outside) run.normal t.turn).tracks i).slot ≡ true
          slot_next = ap (λ (m : NormalKept). is_some (track_at m.tracks i).slot) (sym t.after) ∙ ap is_some still.slot_is

          turn_adds : server_list (told_at (after_turn s run round) i).stream ≡ server_list (told_at (before_turn s run round) i).stream
          turn_adds = turn_leaves s marks run round t i numbers.low numbers.there goes away slot_next

          meeting : Meeting s run i slot item
          meeting = record {
            there = numbers.low;
            some = (let a = ((c.order.sound.slotted i).slot (ap is_some u.lending.slot_is)).0 in let b = ap number_of u.lending.slot_is in omega (arith, a, b));
            low = u.lending.low;
            is = ap (λ (x : FastTrack). x.track) u.lending.item_is;
            named = named_at s marks i slot item u.lending.low run (have_none s marks i slot item u.lending.low run u.fresh) (length run.states);
            draft = draft_item s run i slot item c.order c.items u.lending.lent u.lending.slot_is u.lending.item_is;
            says = says_none item (slot_told run slot) u.told;
            quiet = quiet;
            going = c.going;
            knows = states;
          }

          -- a state that the turn pushes has the item
          pushed_has : (k : ℕ) (y : FastState) → length run.states < k → state_of after.states k ≡ Some y → HasOrOut i slot item y
          pushed_has k y above is = inl (subst (HasItem slot item) (sym (beyond_draft s marks scales long run round legal c k y above is)) (plays_item slot item after.normal.draft (lending_draft s marks scales long run round legal c i named slot item still)))

          report : (slot_reported (learnt t.by.outside) g).generation ≡ g.generation → (slot_reported (learnt t.by.outside) g).shut ≡ false
          report e =
              found_reported s marks run round legal c reports t goes i slot u.lending.slot_is (SaysOpenOf item) (meets_open s marks run round i slot item legal meeting pushed_has turn_adds seen) (e ∙ alike.generation ∙ sym (ap (λ (x : FastTrack). x.generation) u.lending.item_is))
