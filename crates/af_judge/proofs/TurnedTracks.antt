-- The tracks that a judge keeps follow a turn as the run tells it.
use Rattle.std.proofs.Common.{◌≡◌, ℕ, ◌&&◌, not, Bool, true, false, if◌then◌else◌, fold, map, refl, sym, ap, ◌∙◌, subst, List, [], ◌∷◌, ◌++◌, length, arith}
use Rattle.af_judge.proofs.Common.{AllByRecursion, BlockTold, HandEvent, IsOpenTurn, IsTake, Learnt, Marks, NormalKept, ServerEvent, Setup, TakeSeen, TrackKept, Turn, TurnFound, after_ack, all_command_events, asked, commands_turned, count_seen, flat_map, front_of, fronts_by, going, hand_does, heard, invalid, is_found_shut, is_home, learnt, learnt_of, listed, mix_events, not_yet, outside_of, packed_word, recursion_from_All, server_does, status_events, stream_turned, takes_from, took, track_at, track_in, tracks_at, words_taken}
use Rattle.af_base.specs.declared.event.HandEvent.TheVariants as hand
use Rattle.af_base.specs.declared.event.ServerEvent.TheVariants as server
use Rattle.af_judge.specs.declared.track_judge.TrackJudge.{TrackJudge}
use Rattle.af_judge.specs.Blocks.{BlockJudged, IsBlockOf, played_told}
use Rattle.af_judge.specs.NormalJudged.{Follows, NormalJudged}
use Rattle.af_judge.specs.NormalTold.{all_known, is_shut_now, take_told, track_told}
use Rattle.af_judge.proofs.Words.{Finds}
use Rattle.af_judge.proofs.TurnLegal.{learnt_same}
use Rattle.af_judge.proofs.TurnTold.{commands_kept, stream_kept}

going_open : {E : Type 0} (e : Turn) (xs : List E) → e.ended ≡ false → going e xs ≡ xs
going_open e xs open_is = ap (λ (b : Bool). if b then [] else xs) open_is

-- takes change the stream block alone
pub takes_stream : (n : ℕ) (takes : List TakeSeen) (t : TrackJudge) → (fold (λ (t : TrackJudge) (take : TakeSeen). take_told n take t) t takes).stream ≡ fold (λ (x : BlockJudged) (take : TakeSeen). played_told n take.slot (map packed_word take.frames) x) t.stream takes
takes_stream n [] t = refl
takes_stream n (take ∷ takes) t = takes_stream n takes (take_told n take t)

pub takes_commands : (n : ℕ) (takes : List TakeSeen) (t : TrackJudge) → (fold (λ (t : TrackJudge) (take : TakeSeen). take_told n take t) t takes).commands ≡ t.commands
takes_commands n [] t = refl
takes_commands n (take ∷ takes) t = takes_commands n takes (take_told n take t)

pub takes_client : (n : ℕ) (takes : List TakeSeen) (t : TrackJudge) → (fold (λ (t : TrackJudge) (take : TakeSeen). take_told n take t) t takes).client ≡ t.client
takes_client n [] t = refl
takes_client n (take ∷ takes) t = takes_client n takes (take_told n take t)

-- the frames of each take are as many as its look shows
whole_takes : (tracks : ℕ) (takes : List TakeSeen) → AllByRecursion (IsTake tracks) takes → AllByRecursion (λ (t : TakeSeen). length t.frames ≡ count_seen t.slot.seen) takes
whole_takes tracks [] all = tt
whole_takes tracks (t ∷ takes) all = (all.0.frames, whole_takes tracks takes all.1)

-- both tests, one in the other or at once
nested : (home shut : Bool) (xs : List ServerEvent) → (if home then (if shut then xs else []) else []) ≡ (if shut && home then xs else [])
nested true true xs = refl
nested true false xs = refl
nested false true xs = refl
nested false false xs = refl

module _ (c : Setup) (f : TurnFound) (m : NormalKept) (e : Turn) (open_is : e.ended ≡ false) (i : ℕ) where
  -- what the turn learnt, and the track as it found it
  abbrev k : Learnt
  k = learnt (outside_of c f e)

  abbrev found : TrackKept
  found = track_at (after_ack e.ack m).tracks i

  abbrev shut : Bool
  shut = is_shut_now found (heard k i found) (track_in e i)

  found_so : track_at (tracks_at c k m e i) i ≡ found
  found_so = not_yet c k e.tracks (after_ack e.ack m).tracks i i (omega arith)

  invalid_so : invalid k (track_in e i) (tracks_at c k m e i) i ≡ (if shut then server.SetFlags 4 ∷ [] else [])
  invalid_so = ap (λ (s : TrackKept). if not s.life.ended && is_found_shut (heard k i s) (track_in e i).looks then server.SetFlags 4 ∷ [] else []) found_so

  home_so : (if is_home (track_at (tracks_at c k m e i) i).holder then invalid k (track_in e i) (tracks_at c k m e i) i else []) ≡ (if shut && is_home found.holder then server.SetFlags 4 ∷ [] else [])
  home_so = ap (λ (s : TrackKept). if is_home s.holder then invalid k (track_in e i) (tracks_at c k m e i) i else []) found_so
      ∙ ap (λ (es : List ServerEvent). if is_home found.holder then es else []) invalid_so
      ∙ nested (is_home found.holder) shut (server.SetFlags 4 ∷ [])

  pub commands_so : (t : TrackJudge) → IsBlockOf t.commands (f.commands i) → IsBlockOf (track_told found (heard k i found) (track_in e i) t).commands (commands_turned c (outside_of c f e) m e i (f.commands i))
  commands_so t h =
      let looks = (track_in e i).looks in
      let b : BlockTold = f.commands i in
      let es : List ServerEvent = all_command_events (listed b) looks (fronts_by front_of (listed b) looks) in
      let stored : List ServerEvent = status_events (track_in e i).status in
      let events : going e (es ++ invalid k (track_in e i) (tracks_at c k m e i) i ++ stored) ≡ es ++ (if shut then server.SetFlags 4 ∷ [] else []) ++ stored =
      going_open e (es ++ invalid k (track_in e i) (tracks_at c k m e i) i ++ stored) open_is ∙ ap (λ (xs : List ServerEvent). es ++ xs ++ stored) invalid_so in
      subst (IsBlockOf (track_told found (heard k i found) (track_in e i) t).commands)
      (sym (ap (λ (ws : List ℕ). took ws (server_does (going e (es ++ invalid k (track_in e i) (tracks_at c k m e i) i ++ stored)) b)) (going_open e (words_taken looks) open_is)
      ∙ ap (λ (xs : List ServerEvent). took (words_taken looks) (server_does xs b)) events))
      (commands_kept looks shut (track_in e i).status t.commands b h)

  pub stream_so : (t : TrackJudge) → IsBlockOf t.stream (f.streams i) → (tracks : ℕ) → IsOpenTurn tracks e
      → IsBlockOf (fold (λ (x : BlockJudged) (take : TakeSeen). played_told (asked c) take.slot (map packed_word take.frames) x) (track_told found (heard k i found) (track_in e i) t).stream (takes_from e.mixes i)) (stream_turned c (outside_of c f e) m e i (f.streams i))
  stream_so t h tracks form =
      let b : BlockTold = f.streams i in
      let o = outside_of c f e in
      let words : List ℕ = map packed_word (flat_map (λ (take : TakeSeen). take.frames) (takes_from e.mixes i)) in
      let mixed : List ServerEvent = mix_events c o e.mixes i in
      let flags : List ServerEvent = (if is_home (track_at (tracks_at c k m e i) i).holder then invalid k (track_in e i) (tracks_at c k m e i) i else []) in
      let marks : List HandEvent = (if (track_in e i).disabled then hand.SetFlags 8 ∷ [] else []) in
      subst (IsBlockOf (fold (λ (x : BlockJudged) (take : TakeSeen). played_told (asked c) take.slot (map packed_word take.frames) x) (track_told found (heard k i found) (track_in e i) t).stream (takes_from e.mixes i)))
      (sym (ap (λ (ws : List ℕ). took ws (server_does (going e (flags ++ mixed)) (hand_does (going e marks) b))) (going_open e words open_is)
      ∙ ap (λ (xs : List ServerEvent). took words (server_does xs (hand_does (going e marks) b))) (going_open e (flags ++ mixed) open_is ∙ ap (λ (xs : List ServerEvent). xs ++ mixed) home_so)
      ∙ ap (λ (xs : List HandEvent). took words (server_does ((if shut && is_home found.holder then server.SetFlags 4 ∷ [] else []) ++ mixed) (hand_does xs b))) (going_open e marks open_is)))
      (stream_kept t.stream b h (shut && is_home found.holder) (track_in e i).disabled (asked c) e.mixes i form.rise (whole_takes tracks e.mixes (recursion_from_All (IsTake tracks) e.mixes form.takes)))

-- the mixer follows the turn by what was learnt in the run
pub mixer_follows : (marks : Marks) (f : TurnFound) (e : Turn) (tracks : List TrackJudge) (j after : NormalJudged) → Finds marks f tracks → length tracks ≡ length j.plain.kept.tracks
    → Follows j (learnt_of f.report (all_known tracks)) e after → Follows j (learnt (outside_of j.plain.setup f e)) e after
mixer_follows marks f e tracks j after finds many follows = subst (λ (l : Learnt). Follows j l e after) (sym (learnt_same j.plain.setup marks f tracks j.plain.kept e finds many)) follows
