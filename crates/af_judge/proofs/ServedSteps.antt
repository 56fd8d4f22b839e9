-- What is kept of the mixers' sides of a block, whatever its client did, after each step of theirs.
use Rattle.std.proofs.Common.{◌≡◌, ℕ, if◌then◌else◌, List, [], ◌∷◌, ◌++◌, length, refl, sym, subst}
use Rattle.af_judge.proofs.Common.{BlockTold, SlotEntry, client_list, count_seen, cycle_events, front_of, listed, server_does, took}
use Rattle.af_judge.specs.Blocks.{BlockJudged, IsBlockOf, played_told}
use Rattle.af_judge.specs.RunTold.{IsServedBlock}
use Rattle.af_judge.proofs.StepsTold.{played_kept}

-- what is judged of a block, with the client's side of the block told
abbrev pub shadow : BlockJudged → BlockTold → BlockJudged
shadow j b = record j { client = client_list b; released = b.released }

-- such a block is kept whole
pub shadow_of : (j : BlockJudged) (b : BlockTold) → IsServedBlock j b → IsBlockOf (shadow j b) b
shadow_of j b h = record { shape = h.shape; client = refl; server = h.server; hand = h.hand; released = refl; taken = h.taken; whole = h.whole; follow = h.follow }

-- what is kept whole is kept so
pub served_of : (j : BlockJudged) (b : BlockTold) → IsBlockOf j b → IsServedBlock j b
served_of j b h = record { shape = h.shape; server = h.server; hand = h.hand; taken = h.taken; whole = h.whole; follow = h.follow }

-- the client's side doesn't matter
pub served_beside : (j k : BlockJudged) (b : BlockTold) → k ≡ record j { client = k.client; released = k.released } → IsServedBlock j b → IsServedBlock k b
served_beside j k b same h = subst (λ (x : BlockJudged). IsServedBlock x b) (sym same) (record { shape = h.shape; server = h.server; hand = h.hand; taken = h.taken; whole = h.whole; follow = h.follow })

-- a mixer's look at a stream block
pub played_served : (j : BlockJudged) (b : BlockTold) (asked : ℕ) (slot : SlotEntry) (words : List ℕ) → IsServedBlock j b → length words ≡ count_seen slot.seen
    → IsServedBlock (played_told asked slot words j) (took words (server_does (cycle_events asked (listed b) slot (front_of asked (listed b) slot)) b))
played_served j b asked slot words h long =
    let after = took words (server_does (cycle_events asked (listed b) slot (front_of asked (listed b) slot)) b) in
    let there = played_told asked slot words (shadow j b) in
    served_beside there (played_told asked slot words j) after refl (served_of there after (played_kept (shadow j b) b asked slot words (shadow_of j b h) long))
