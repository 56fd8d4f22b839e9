-- A turn of the fast mixer while the other parties make theirs: cycles one after the other, with no meeting between them.
use Rattle.std.specs.Prelude.{◌≡◌, ℕ, List, [], length, MatchBool}
use Rattle.af_base.specs.declared.frame.Frame.{Frame}
use Rattle.af_base.specs.declared.log.Cycle.{Cycle}
use Rattle.af_fast.specs.Mixer.{IsInOrder as IsFastInOrder, IsLinked, MixerState}
use Rattle.af_fast.specs.Mixing.{Adopts, MixesOnce}
use Rattle.af_link.specs.declared.links.Links.{Links}
use Rattle.af_runs.specs.Pcm.{written}
use Rattle.af_session.specs.FastTurns.{StepsOn}

-- One cycle: a poll and a mix into some buffer that has the frames of a cycle, and the bytes of what was mixed. The mixer is in order over these links after the poll and after the mix
pub record CyclesOnce (links : Links) (m : MixerState) (answer : Cycle) (bytes : List ℕ) (m' : MixerState) : Type 0 where
  pub polled : MixerState
  pub adopts : Adopts m polled
  pub polled_in : IsFastInOrder polled × IsLinked links polled
  pub before : List Frame
  pub after : List Frame
  pub long : length before ≡ m.frames
  pub mixes : MixesOnce polled before answer m' after
  pub mixed_in : IsFastInOrder m' × IsLinked links m'
  pub sizes : (m'.frames ≡ m.frames) × (m'.cycles ≡ m.cycles)
  pub bytes_are : bytes ≡ written answer after

-- so many cycles, or fewer if one of them mixes nothing
abbrev pub CyclesOn : Links → ℕ → MixerState → List ℕ → MixerState → Type 0
CyclesOn links count m bytes m' = StepsOn (CyclesOnce links) count m bytes m'

-- the most cycles of a turn
abbrev pub most_cycles : ℕ
most_cycles = 16

-- a turn of the fast mixer: none if it has ended
abbrev pub FastTurned : Links → MixerState → List ℕ → MixerState → Type 0
FastTurned links m bytes m' = MatchBool m.exited ((bytes ≡ []) × (m' ≡ m)) (CyclesOn links most_cycles m bytes m')
