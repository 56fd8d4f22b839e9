-- Which command a turn leaves in the draft, and which slots the draft carries.
use Rattle.std.proofs.Common.{◌≡◌, ℕ, zero, suc, ◌==◌, ◌&&◌, ◌||◌, not, if◌then◌else◌, Bool, true, false, true≢false, List, [], ◌∷◌, refl, sym, ap, ◌∙◌, arith}
use Rattle.af_enough_law.proofs.Common.{ColdIdle, Command, Exit, FastState, Home, HotIdle, Initial, IsSound, Learnt, Mix, MixWrite, NormalKept, Setup, TrackKept, Turn, Write, and_none, carries, code_of, comes_home, commands_exit, is_home, is_lent, is_over, is_returning, lent_away, list_any, next_command, no, or_left, or_right, pipe_size, plays, slot_number, slot_of, track_at, turn_after, welcomed}
use Rattle.af_base.specs.declared.state.Command.TheVariants.{Idle}
use Rattle.af_enough_law.proofs.TrackTurns.{greeted}
use Rattle.af_enough_law.proofs.Drafts.{command_turned}

-- some track is to be heard
any_at : (tracks : List TrackKept) (i : ℕ) → plays (track_at tracks i).life ≡ true → list_any (λ (s : TrackKept). plays s.life) tracks ≡ true
any_at [] i e = no e
any_at (s ∷ tracks) zero e = ap (λ (b : Bool). b || list_any (λ (s : TrackKept). plays s.life) tracks) e
any_at (s ∷ tracks) (suc i) e = or_right (plays s.life) (list_any (λ (s : TrackKept). plays s.life) tracks) (any_at tracks i e)

lives : (member ended home : Bool) → (member && not ended) ≡ true → (ended && home) ≡ false
lives true true home e = no e
lives true false home e = refl
lives false ended home e = no e

-- if some track is to be heard, not all is over
not_over : (tracks : List TrackKept) (i : ℕ) → plays (track_at tracks i).life ≡ true → is_over tracks ≡ false
not_over [] i e = no e
not_over (s ∷ tracks) zero e = ap (λ (b : Bool). b && is_over tracks) (lives s.life.member s.life.ended (is_home s.holder) e)
not_over (s ∷ tracks) (suc i) e = and_none (s.life.ended && is_home s.holder) (is_over tracks) (not_over tracks i e)

by_facts : (exits over heard whole : Bool) → Command
by_facts exits over heard whole = if exits || (over && whole) then Exit else if heard || not whole then MixWrite else ColdIdle

exits_by : (exits over heard whole : Bool) → over ≡ true → whole ≡ true → by_facts exits over heard whole ≡ Exit
unfolding by_facts
exits_by true true heard true a b = refl
exits_by false true heard true a b = refl
exits_by exits true heard false a b = no b
exits_by exits false heard whole a b = no a

mixes_by : (exits over heard whole : Bool) → exits ≡ false → over ≡ false → (heard || not whole) ≡ true → by_facts exits over heard whole ≡ MixWrite
unfolding by_facts
mixes_by true over heard whole a b c = absurd (true≢false a)
mixes_by false true heard whole a b c = absurd (true≢false b)
mixes_by false false heard whole a b c = ap (λ (x : Bool). if x then MixWrite else ColdIdle) c

facts_are : (exits : Bool) (tracks : List TrackKept) (room size : ℕ) → next_command exits tracks room size ≡ by_facts exits (is_over tracks) (list_any (λ (s : TrackKept). plays s.life) tracks) (room == size)
unfolding next_command by_facts
facts_are exits tracks room size = refl

module _ (c : Setup) (k : Learnt) (m : NormalKept) (e : Turn) (runs : e.ended ≡ false) where
  abbrev after : NormalKept
  after = turn_after c k m e

  -- once all lives have ended and all proxies are home, a turn that sees the pipe's whole room orders the Exit
  pub orders_exit : is_over after.tracks ≡ true → (e.room == pipe_size c) ≡ true → code_of after.draft.command ≡ code_of Exit
  orders_exit over whole = command_turned c k m e runs ∙ ap (λ (x : Command). code_of x) (facts_are (commands_exit m.draft) after.tracks e.room (pipe_size c) ∙ exits_by (commands_exit m.draft) (is_over after.tracks) _ (e.room == pipe_size c) over whole)

  -- while a track is to be heard, it orders a mix
  pub orders_mix : commands_exit m.draft ≡ false → (i : ℕ) → plays (track_at after.tracks i).life ≡ true → code_of after.draft.command ≡ code_of MixWrite
  orders_mix going i heard = command_turned c k m e runs ∙ ap (λ (x : Command). code_of x) (facts_are (commands_exit m.draft) after.tracks e.room (pipe_size c)
      ∙ mixes_by (commands_exit m.draft) (is_over after.tracks) (list_any (λ (s : TrackKept). plays s.life) after.tracks) (e.room == pipe_size c) going (not_over after.tracks i heard) (or_left _ (not (e.room == pipe_size c)) (any_at after.tracks i heard)))

-- a track that is lent is carried by the draft, in its slot, by its number and its generation
pub lent_carried : (m : NormalKept) (i : ℕ) → IsSound m.tracks m.draft → is_lent (track_at m.tracks i).holder ≡ true
    → (let s = track_at m.tracks i in (carries m.draft (slot_number s) ≡ true) × ((slot_of m.draft (slot_number s)).track ≡ i) × ((slot_of m.draft (slot_number s)).generation ≡ s.generation))
lent_carried m i sound lent = let d = sound.drafted i in let own = d.own (lent_away (track_at m.tracks i).holder lent) in (d.lent lent, own.0, own.1)

-- the number of a mix is its own
pub mix_is : (x : Command) → code_of x ≡ code_of MixWrite → x ≡ MixWrite
mix_is Initial e = absurd (omega arith)
mix_is HotIdle e = absurd (omega arith)
mix_is ColdIdle e = absurd (omega arith)
mix_is Idle e = absurd (omega arith)
mix_is Exit e = absurd (omega arith)
mix_is Mix e = absurd (omega arith)
mix_is Write e = absurd (omega arith)
mix_is MixWrite e = refl

-- ## What comes home

pub come : (last : FastState) (s : TrackKept) (ack : Bool) → ack ≡ true → is_returning s.holder ≡ true → carries last (slot_number s) ≡ false → (greeted ack last s).holder ≡ Home
unfolding welcomed
come last s true a returning gone = by_test (comes_home last s) (both_true (is_returning s.holder) (carries last (slot_number s)) returning gone)
  where
    both_true : (a b : Bool) → a ≡ true → b ≡ false → (a && not b) ≡ true
    both_true true false e f = refl
    both_true true true e f = absurd (true≢false f)
    both_true false b e f = absurd (true≢false (sym e))

    by_test : (b : Bool) → b ≡ true → (if b then record s { holder = Home } else s).holder ≡ Home
    by_test true e = refl
    by_test false e = absurd (true≢false (sym e))
come last s false a returning gone = no a
