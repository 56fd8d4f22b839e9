-- What the cycles of a turn of the fast mixer alone add to the log and to the sound.
use Rattle.std.proofs.Common.{◌≡◌, ℕ, Bool, true, false, List, [], ◌++◌, sym, ap, subst, ◌∙◌, append_assoc}
use Rattle.af_side_by_side.proofs.Common.{AddsOne, Cycle, CyclesOn, CyclesOnce, FastTurned, IsWhole, Links, Logged, MatchBool, MixerState, Roomy, mix_adds, mix_does, most_cycles, none_added, pcm_of, polled_keeps, steps_add}
use Rattle.af_session.specs.FastTurns.{TurnAdds}

-- a cycle adds at most one entry, with the bytes that it wrote
once_adds : (links : Links) (m m' : MixerState) (answer : Cycle) (bytes : List ℕ) → IsWhole m.log → CyclesOnce links m answer bytes m'
    → AddsOne m.frames answer m.log m'.log bytes
once_adds links m m' answer bytes whole w =
    let polled = polled_keeps m w.polled w.adopts in
    subst (λ (x : ℕ × Logged × List ℕ). AddsOne x.0 answer x.1 m'.log x.2) (λ i. (polled.1 i, polled.0 i, sym w.bytes_are i))
    (mix_adds w.polled m' w.before w.after answer (w.long ∙ sym polled.1) (subst IsWhole (sym polled.0) whole)
    (mix_does w.polled m' w.before w.after answer w.mixes))

-- a turn adds at most sixteen entries, with the bytes that it wrote
pub turned_adds : (links : Links) (m m' : MixerState) (bytes : List ℕ) → IsWhole m.log → FastTurned links m bytes m' → TurnAdds m.frames most_cycles m.log m'.log bytes
turned_adds links m m' bytes whole turned = by_exit m.exited turned
  where
    by_exit : (exited : Bool) → MatchBool exited ((bytes ≡ []) × (m' ≡ m)) (CyclesOn links most_cycles m bytes m') → TurnAdds m.frames most_cycles m.log m'.log bytes
    by_exit true done = none_added m.frames most_cycles m.log m'.log bytes whole (ap (λ (y : MixerState). y.log) done.1) done.0
    by_exit false done = steps_add (CyclesOnce links) (λ (y : MixerState). y)
        (λ s t answer front once_whole w. (once_adds links s t answer front once_whole w, w.sizes.0)) most_cycles m m' bytes whole done

-- if the bytes, behind those that went out before, were the sound of the log, they are so again after a turn
pub sounds_on : (links : Links) (m m' : MixerState) (bytes bytes' : Roomy ℕ) (added before : List ℕ) → IsWhole m.log → FastTurned links m added m' → bytes' ≡ record bytes { items = bytes.items ++ added }
    → before ++ bytes.items ≡ pcm_of m.frames m.log → before ++ bytes'.items ≡ pcm_of m.frames m'.log
sounds_on links m m' bytes bytes' added before whole turned is same =
    let adds = turned_adds links m m' added whole turned in
    ap (λ (y : Roomy ℕ). before ++ y.items) is
    ∙ sym (append_assoc before bytes.items added)
    ∙ ap (λ (l : List ℕ). l ++ added) same
    ∙ sym adds.grows.sound
