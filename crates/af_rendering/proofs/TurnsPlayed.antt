-- The turns that were played so far. Their rounds are seen in the parties before and after each, and stand nowhere else.
use Rattle.std.proofs.Common.{◌≡◌, ℕ, ◌+◌, ◌<◌, List, [], ◌∷◌, ◌++◌, length, take, get_or}
use Rattle.af_rendering.proofs.Common.{All-append, All-cons, All-nil, FollowsRound, Given, IsReady, IsRound, IsTally, Links, NotesFrames, NotesNumbers, RoundNoted, SessionState, Tallied, TurnSpec, nothing_shown, pcm_of, round_told}
use Rattle.af_rendering.specs.SoFar.{SoFar, noted_of}
use Rattle.af_rendering.proofs.RoundForms.{noted_none, noted_round}
use Rattle.af_rendering.proofs.RunMore.{run_more, run_none}
use Rattle.af_rendering.proofs.ShownWhole.{tally_first}

-- no turns were played so far
pub so_far_none : (g : Given) (s : SessionState) (tally : Tallied) → s.fast.log.entries ≡ [] → s.fast.log.frames ≡ [] → IsTally (nothing_shown s.fast.frames (length g.tracks)) tally → SoFar g [] s [] s tally
so_far_none g s tally entries frames is = record {
  run = run_none g s;
  tally_is = tally_first (length g.tracks) s.fast tally entries is;
  noted = noted_none (length g.tracks) s.fast.log entries frames;
  numbers = All-nil NotesNumbers;
}

-- one more turn was played, whatever stands for a turn that isn't there
pub so_far_more : (links : Links) (d : TurnSpec) (g : Given) (turns : List TurnSpec) (i : ℕ) (s m t : SessionState) (rounds : List RoundNoted) (before after : Tallied) → i < length turns → IsReady links g i m
    → SoFar g (take i turns) s rounds m before → (added : List ℕ) → IsRound g (get_or turns i d) m (round_told (get_or turns i d) m t) added t → pcm_of s.fast.frames m.fast.log ++ added ≡ pcm_of s.fast.frames t.fast.log
    → NotesFrames (round_told (get_or turns i d) m t) → NotesNumbers (round_told (get_or turns i d) m t) → FollowsRound (round_told (get_or turns i d) m t) m.fast t.fast before after
    → SoFar g (take (i + 1) turns) s (rounds ++ round_told (get_or turns i d) m t ∷ []) t after
so_far_more links d g turns i s m t rounds before after lt ready far added round grown frames numbers follows =
    let turn = get_or turns i d in
    let r = round_told turn m t in
    record {
      run = run_more d g turns i s m t rounds lt far.run r added round grown;
      tally_is = (λ first. follows first (length g.tracks) rounds (far.tally_is first));
      noted = noted_round links g i m ready turn r added t round frames (noted_of g rounds) far.noted;
      numbers = All-append NotesNumbers rounds (r ∷ []) far.numbers (All-cons NotesNumbers r [] numbers (All-nil NotesNumbers));
    }
