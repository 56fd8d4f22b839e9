-- A turn of the normal mixer leaves the blocks of a turn run in phases, if its proxies act where they met.
use Rattle.std.proofs.Common.{◌≡◌, ◌⊎◌, inl, inr, ℕ, ◌<◌, Bool, true, false, true≢false, if◌then◌else◌, map, List, [], ◌∷◌, length, Option, Some, None, refl, sym, ap, ◌∙◌, subst, arith}
use Rattle.af_turn_law.proofs.Common.{HandEvent, Moment, Outside, RoundSeen, Run, ServerEvent, Session, Setup, TrackTold, Turn, TurnFound, by_hand, by_server, command_list, each_at, each_long, found_before, hand_events_of, learnt, loaded, no_track, outside_of, setup_of, stream_list, takes_part, told_at, track_in, tracks_at, turn_alone, turned, turned_track, with_load, with_turn}
use Rattle.af_base.specs.declared.event.HandEvent.TheVariants as hand
use Rattle.af_turn_law.proofs.TurnActs.{StreamActs, ActsWhereMet}
use Rattle.af_turn_law.specs.Phased.{IsBlockPhased}
use Rattle.af_turn_law.proofs.BlockSteps.{Ready, Done, ClientKnows, ServerKnows, OnlyInvalid, told_more, server_done, hand_ready, turn_done}
use Rattle.af_turn_law.proofs.PlainLists.{plain_stream_list, plain_command_list}
use Rattle.af_turn_law.proofs.BlocksTame.{StreamDone, tame_told}
use Rattle.af_turn_law.proofs.RunBlocks.{RunReady, RunDone, nothing_done}

-- what holds once the hand did something
abbrev AfterHand : Bool → List HandEvent → List Moment → Type 0
AfterHand part hs told = IsBlockPhased (told_more told (map by_hand hs)) × ClientKnows (told_more told (map by_hand hs)) × (part ≡ true → ServerKnows (told_more told (map by_hand hs)))

hands_done : (part handed off : Bool) (told : List Moment) → ((if off then hand.SetFlags 8 ∷ [] else []) ≡ []) ⊎ (handed ≡ true) → Ready part handed told → AfterHand part (if off then hand.SetFlags 8 ∷ [] else []) told
hands_done part handed false told there h = (h.phased, h.client, h.server)
hands_done part handed true told (inl none) h = absurd (let z : ⊥ = (let n : length (hand.SetFlags 8 ∷ []) ≡ 0 = ap length none in omega (arith, n)) in z)
hands_done part handed true told (inr is) h = let r = hand_ready part 8 told (subst (λ there. Ready part there told) is h) in (r.1, r.2, r.0)

hand_done : (part handed : Bool) (e : Turn) (n : ℕ) (told : List Moment) → (hand_events_of e n ≡ []) ⊎ (handed ≡ true) → Ready part handed told → AfterHand part (hand_events_of e n) told
hand_done part handed e n told there h = by_end e.ended there
  where
    by_end : (b : Bool) → ((if b then [] else (if (track_in e n).disabled then hand.SetFlags 8 ∷ [] else [])) ≡ []) ⊎ (handed ≡ true) → AfterHand part (if b then [] else (if (track_in e n).disabled then hand.SetFlags 8 ∷ [] else [])) told
    by_end true there = (h.phased, h.client, h.server)
    by_end false there = hands_done part handed (track_in e n).disabled told there h

module _ (s : Session) (f : TurnFound) (e : Turn) (run : Run) (n : ℕ) (es : List ServerEvent) (acts : StreamActs s run f e n es) where
  -- whoever takes no part in the next meetings does nothing
  pub none_after : takes_part s (with_turn s f e run) n ≡ false → es ≡ []
  none_after off = elim acts [
    | inl none ↦ none
    | inr does ↦ elim does [
      | inl (was, on) ↦ absurd (true≢false (sym on ∙ off))
      | inr (invalid, unseen, on) ↦ absurd (true≢false (sym on ∙ off))
    ]
  ]

  -- whoever took no part in the last meetings only sets an INVALID that is unseen
  only_invalid : takes_part s run n ≡ false → OnlyInvalid es (told_at run n).stream.told
  only_invalid off = elim acts [
    | inl none ↦ inl none
    | inr does ↦ elim does [
      | inl (was, on) ↦ absurd (true≢false (sym was ∙ off))
      | inr (invalid, unseen, on) ↦ inr (invalid, unseen)
    ]
  ]

run_turned : (s : Session) (f : TurnFound) (e : Turn) (run : Run) → ActsWhereMet s run f e → RunReady s run → RunDone s (with_load e (with_turn s f e run))
unfolding with_load with_turn
run_turned s f e run acts h = record {
  streams = λ n low. (let below : n < length run.tracks = (let m = many in omega (arith, low, m)) in
      let es = stream_list c o e (tracks_at c (learnt o) run.normal e n) n in
      let after = takes_part s (with_turn s f e run) n in
      let old = (told_at run n).stream.told in
      subst (StreamDone after true) (sym (told n below)) (λ tame. (
      let was = tame_told old (map by_hand (hand_events_of e n)) (tame_told (told_more old (map by_hand (hand_events_of e n))) (map by_server es) tame) in
      let by_the_hand = hand_done (takes_part s run n) run.handed e n old (acts.hands n) (h.streams n below was) in
      turn_done (takes_part s run n) after (hand_events_of e n) es old by_the_hand.0 by_the_hand.1 by_the_hand.2 (plain_stream_list c o e (tracks_at c (learnt o) run.normal e n) n)
      (none_after s f e run n es (acts.streams n below was)) (only_invalid s f e run n es (acts.streams n below was)))));
  commands = λ n low. (let below : n < length run.tracks = (let m = many in omega (arith, low, m)) in
      subst (λ (t : TrackTold). Done true false t.commands.told) (sym (told n below))
      (server_done false (command_list c o e (tracks_at c (learnt o) run.normal e n) n) (told_at run n).commands.told (plain_command_list c o e (tracks_at c (learnt o) run.normal e n) n) (h.commands n below)));
}
  where
    c : Setup
    c = setup_of s

    o : Outside
    o = outside_of c f e

    many : length (with_turn s f e run).tracks ≡ length run.tracks
    many = each_long (turned_track c o run.normal e) 0 run.tracks

    told : (n : ℕ) → n < length run.tracks → told_at (with_turn s f e run) n ≡ turned_track c o run.normal e n (told_at run n)
    told n low = each_at (turned_track c o run.normal e) 0 run.tracks n n no_track low (omega arith)

-- the turn of a round leaves the blocks in phases
pub run_turn : (s : Session) (round : RoundSeen) (run : Run) → ((e : Turn) → round.turn ≡ Some e → ActsWhereMet s run (found_before s run [] e) e) → RunReady s run → RunDone s (turn_alone s run round)
run_turn s round run acts h = by_turn round.turn acts
  where
    by_turn : (o : Option Turn) → ((e : Turn) → o ≡ Some e → ActsWhereMet s run (found_before s run [] e) e) → RunDone s (loaded o (turned s (found_before s run []) o run))
    by_turn None acts = nothing_done s run h
    by_turn (Some e) acts = run_turned s (found_before s run [] e) e run (acts e refl) h
