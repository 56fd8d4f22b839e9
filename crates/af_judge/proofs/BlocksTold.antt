-- What is kept of a block of a run follows what is told of it.
use Rattle.std.proofs.Common.{◌≡◌, ◌↔◌, ◌^◌, ℕ, ◌<◌, ◌≤◌, Bool, true, false, fold, map, List, [], ◌∷◌, ◌++◌, length, take, drop, refl, sym, ap, ◌∙◌, subst, arith, append_assoc, append-nil, length-append}
use Rattle.af_judge.proofs.Common.{BlockTold, ClientEvent, HandEvent, HasBlockHistory, IsClientList, KeepsHistory, Moment, ServerEvent, ServerKept, Shape, by_client, by_hand, by_server, client_does, client_list, client_of, drop-append-le, hand_does, hand_list, hand_of, is_lawful, new_block, server_begins, server_does, server_keeps, server_kept, server_list, server_of, take-append-le, took}
use Rattle.af_base.specs.declared.event.ServerEvent.TheVariants as server
use Rattle.af_runs.specs.Blocks.{is_tame}
use Rattle.af_judge.specs.declared.words_judge.Taken.{Taken}
use Rattle.af_judge.specs.Blocks.{AllFollow, BlockJudged, HasItsHistory, IsBlockOf, WholeTakes, client_more, hand_more, placed_from, released_more, saw_front, server_more, taken_in}
use Rattle.af_judge.specs.Servers.{most_counted}
use Rattle.af_judge.proofs.HistoryJudged.{Tells, history_found, history_of}

-- ## The lists of a block after some events more

abbrev told_more : List Moment → List Moment → List Moment
told_more told moments = fold (λ (sofar : List Moment) (m : Moment). m ∷ sofar) told moments

pub client-client : (told : List Moment) (es : List ClientEvent) → client_of (told_more told (map by_client es)) ≡ client_of told ++ es
client-client told [] = sym (append-nil (client_of told))
client-client told (e ∷ es) = client-client (by_client e ∷ told) es ∙ append_assoc (client_of told) (e ∷ []) es

pub client-server : (told : List Moment) (es : List ClientEvent) → server_of (told_more told (map by_client es)) ≡ server_of told
client-server told [] = refl
client-server told (e ∷ es) = client-server (by_client e ∷ told) es

pub client-hand : (told : List Moment) (es : List ClientEvent) → hand_of (told_more told (map by_client es)) ≡ hand_of told
client-hand told [] = refl
client-hand told (e ∷ es) = client-hand (by_client e ∷ told) es

server-server : (told : List Moment) (es : List ServerEvent) → server_of (told_more told (map by_server es)) ≡ server_of told ++ es
server-server told [] = sym (append-nil (server_of told))
server-server told (e ∷ es) = server-server (by_server e ∷ told) es ∙ append_assoc (server_of told) (e ∷ []) es

pub server-client : (told : List Moment) (es : List ServerEvent) → client_of (told_more told (map by_server es)) ≡ client_of told
server-client told [] = refl
server-client told (e ∷ es) = server-client (by_server e ∷ told) es

server-hand : (told : List Moment) (es : List ServerEvent) → hand_of (told_more told (map by_server es)) ≡ hand_of told
server-hand told [] = refl
server-hand told (e ∷ es) = server-hand (by_server e ∷ told) es

hand-hand : (told : List Moment) (es : List HandEvent) → hand_of (told_more told (map by_hand es)) ≡ hand_of told ++ es
hand-hand told [] = sym (append-nil (hand_of told))
hand-hand told (e ∷ es) = hand-hand (by_hand e ∷ told) es ∙ append_assoc (hand_of told) (e ∷ []) es

pub hand-client : (told : List Moment) (es : List HandEvent) → client_of (told_more told (map by_hand es)) ≡ client_of told
hand-client told [] = refl
hand-client told (e ∷ es) = hand-client (by_hand e ∷ told) es

hand-server : (told : List Moment) (es : List HandEvent) → server_of (told_more told (map by_hand es)) ≡ server_of told
hand-server told [] = refl
hand-server told (e ∷ es) = hand-server (by_hand e ∷ told) es

-- ## A block on which nothing was done

pub block_begins : (shape : Shape) (lawful : Bool) → IsBlockOf (record { shape = shape; lawful = lawful; client = []; server = []; hand = []; released = []; taken = [] }) (new_block shape)
block_begins shape lawful = record { shape = refl; client = refl; server = refl; hand = refl; released = refl; taken = refl; whole = refl; follow = tt }

-- ## The client and the hand

-- the client did these events, and released these words
pub client_told : (j : BlockJudged) (b : BlockTold) (es : List ClientEvent) (words : List ℕ) → IsBlockOf j b → IsBlockOf (released_more words (client_more es j)) (record (client_does es b) { released = b.released ++ words })
client_told j b es words h =
    let same = client-server b.told es in
    record {
      shape = h.shape;
      client = ap (λ (x : List ClientEvent). x ++ es) h.client ∙ sym (client-client b.told es);
      server = h.server ∙ sym same;
      hand = h.hand ∙ sym (client-hand b.told es);
      released = ap (λ (x : List ℕ). x ++ words) h.released;
      taken = h.taken ∙ ap (λ (x : List ServerEvent). taken_in b.shape (server_begins b.shape) x b.taken) (sym same);
      whole = subst (λ (x : List ServerEvent). WholeTakes x b.taken) (sym same) h.whole;
      follow = subst (AllFollow false) (sym same) h.follow;
    }

-- the hand did these
pub hand_told : (j : BlockJudged) (b : BlockTold) (es : List HandEvent) → IsBlockOf j b → IsBlockOf (hand_more es j) (hand_does es b)
hand_told j b es h =
    let same = hand-server b.told es in
    record {
      shape = h.shape;
      client = h.client ∙ sym (hand-client b.told es);
      server = h.server ∙ sym same;
      hand = ap (λ (x : List HandEvent). x ++ es) h.hand ∙ sym (hand-hand b.told es);
      released = h.released;
      taken = h.taken ∙ ap (λ (x : List ServerEvent). taken_in b.shape (server_begins b.shape) x b.taken) (sym same);
      whole = subst (λ (x : List ServerEvent). WholeTakes x b.taken) (sym same) h.whole;
      follow = subst (AllFollow false) (sym same) h.follow;
    }

-- ## The server

whole-join : (es more : List ServerEvent) (words ws : List ℕ) → WholeTakes es words → WholeTakes more ws → WholeTakes (es ++ more) (words ++ ws)
whole-join [] more words ws h m = subst (λ (x : List ℕ). WholeTakes more (x ++ ws)) (sym h) m
whole-join (server.Take count ∷ es) more words ws h m = (
  (let a = length-append words ws in let b = h.0 in omega (arith, a, b)),
  subst (WholeTakes (es ++ more)) (sym (drop-append-le count words ws h.0)) (whole-join es more (drop count words) ws h.1 m),
)
whole-join (server.SawGain word ∷ es) more words ws h m = whole-join es more words ws h m
whole-join (server.SawFlush flush ∷ es) more words ws h m = whole-join es more words ws h m
whole-join (server.SawRear rear ∷ es) more words ws h m = whole-join es more words ws h m
whole-join (server.SawFront front ∷ es) more words ws h m = whole-join es more words ws h m
whole-join (server.Drop to ∷ es) more words ws h m = whole-join es more words ws h m
whole-join (server.Tally missing ∷ es) more words ws h m = whole-join es more words ws h m
whole-join (server.SetFlags bits ∷ es) more words ws h m = whole-join es more words ws h m
whole-join (server.SetStatus word ∷ es) more words ws h m = whole-join es more words ws h m
whole-join (server.Learn count ∷ es) more words ws h m = whole-join es more words ws h m

taken-join : (shape : Shape) (k : ServerKept) (es more : List ServerEvent) (words ws : List ℕ) → WholeTakes es words → taken_in shape k (es ++ more) (words ++ ws) ≡ taken_in shape k es words ++ taken_in shape (fold (server_keeps shape) k es) more ws
taken-join shape k [] more words ws h = ap (λ (x : List ℕ). taken_in shape k more (x ++ ws)) h
taken-join shape k (server.Take count ∷ es) more words ws h =
    let after = server_keeps shape k (server.Take count) in
    ap (λ (x : List ℕ × List ℕ). placed_from k.consumed x.0 ++ taken_in shape after (es ++ more) x.1) (λ i. (take-append-le count words ws h.0 i, drop-append-le count words ws h.0 i))
    ∙ (ap (λ (x : List Taken). placed_from k.consumed (take count words) ++ x) (taken-join shape after es more (drop count words) ws h.1)
    ∙ sym (append_assoc (placed_from k.consumed (take count words)) (taken_in shape after es (drop count words)) (taken_in shape (fold (server_keeps shape) after es) more ws)))
taken-join shape k (server.SawGain word ∷ es) more words ws h = taken-join shape (server_keeps shape k (server.SawGain word)) es more words ws h
taken-join shape k (server.SawFlush flush ∷ es) more words ws h = taken-join shape (server_keeps shape k (server.SawFlush flush)) es more words ws h
taken-join shape k (server.SawRear rear ∷ es) more words ws h = taken-join shape (server_keeps shape k (server.SawRear rear)) es more words ws h
taken-join shape k (server.SawFront front ∷ es) more words ws h = taken-join shape (server_keeps shape k (server.SawFront front)) es more words ws h
taken-join shape k (server.Drop to ∷ es) more words ws h = taken-join shape (server_keeps shape k (server.Drop to)) es more words ws h
taken-join shape k (server.Tally missing ∷ es) more words ws h = taken-join shape (server_keeps shape k (server.Tally missing)) es more words ws h
taken-join shape k (server.SetFlags bits ∷ es) more words ws h = taken-join shape (server_keeps shape k (server.SetFlags bits)) es more words ws h
taken-join shape k (server.SetStatus word ∷ es) more words ws h = taken-join shape (server_keeps shape k (server.SetStatus word)) es more words ws h
taken-join shape k (server.Learn count ∷ es) more words ws h = taken-join shape (server_keeps shape k (server.Learn count)) es more words ws h

follow-join : (b : Bool) (xs ys : List ServerEvent) → AllFollow b xs → AllFollow (fold saw_front b xs) ys → AllFollow b (xs ++ ys)
follow-join b [] ys h t = t
follow-join b (x ∷ xs) ys h t = (h.0, follow-join (saw_front b x) xs ys h.1 t)

-- the server did these events, by which these words were taken
pub server_told : (j : BlockJudged) (b : BlockTold) (es : List ServerEvent) (words : List ℕ) (placed : List Taken) → IsBlockOf j b → WholeTakes es words → ((last : Bool) → AllFollow last es)
    → placed ≡ taken_in b.shape (server_kept b.shape (server_list b)) es words → IsBlockOf (record (server_more es j) { taken = j.taken ++ placed }) (took words (server_does es b))
server_told j b es words placed h whole follow is =
    let same = server-server b.told es in
    let shape = b.shape in
    record {
      shape = h.shape;
      client = h.client ∙ sym (server-client b.told es);
      server = ap (λ (x : List ServerEvent). x ++ es) h.server ∙ sym same;
      hand = h.hand ∙ sym (server-hand b.told es);
      released = h.released;
      taken =
          ap (λ (x : List Taken × List Taken). x.0 ++ x.1) (λ i. (h.taken i, is i))
          ∙ (sym (taken-join shape (server_begins shape) (server_list b) es b.taken words h.whole)
          ∙ ap (λ (x : List ServerEvent). taken_in shape (server_begins shape) x (b.taken ++ words)) (sym same));
      whole = subst (λ (x : List ServerEvent). WholeTakes x (b.taken ++ words)) (sym same) (whole-join (server_list b) es b.taken words h.whole whole);
      follow = subst (AllFollow false) (sym same) (follow-join false (server_list b) es h.follow (follow (fold saw_front false (server_list b))));
    }

-- ## Histories

pub block-same : (j k : BlockJudged) → j.shape ≡ k.shape → j.client ≡ k.client → j.server ≡ k.server → j.hand ≡ k.hand → j.released ≡ k.released → j.taken ≡ k.taken → j ≡ record k { lawful = j.lawful }
block-same j k s c v h r t = λ i. record { shape = s i; lawful = j.lawful; client = c i; server = v i; hand = h i; released = r i; taken = t i }

-- what the judge finds of a block is its history
pub told_history : (j : BlockJudged) (b : BlockTold) → IsBlockOf j b → b.shape.frames ≤ 65536 → IsClientList b.shape.frames b.shape.cells b.shape.base (client_list b) → length b.released < most_counted → (HasItsHistory j → HasBlockHistory b) × (HasBlockHistory b → HasItsHistory j)
told_history j b h few spelled short =
    let k : BlockJudged = record { shape = b.shape; lawful = j.lawful; client = client_list b; server = server_list b; hand = hand_list b; released = b.released; taken = taken_in b.shape (server_begins b.shape) (server_list b) b.taken } in
    let same : j ≡ k = block-same j k h.shape h.client h.server h.hand h.released h.taken in
    let t : Tells k b.taken = record { few = few; calls = spelled; follow = h.follow; taken = refl; whole = h.whole; short = short } in
    (λ has. history_of k b.taken t (subst HasItsHistory same has), λ has. subst HasItsHistory (sym same) (history_found k b.taken t has))

-- what a meeting finds is whether the block keeps its history
pub history_judged : (server_there : Bool) (j : BlockJudged) (b : BlockTold) → IsBlockOf j b → b.shape.frames ≤ 65536 → IsClientList b.shape.frames b.shape.cells b.shape.base (client_list b)
    → (server_there ≡ true → is_lawful j.client ≡ true → length j.released < 2 ^ 63) → (server_there ≡ true → is_lawful j.client ≡ true → HasItsHistory j) ↔ KeepsHistory server_there b
history_judged server_there j b h few spelled short =
    let lawful : is_tame b ≡ true → is_lawful j.client ≡ true = λ tame. ap is_lawful h.client ∙ tame in
    let size : length j.released < 2 ^ 63 → length b.released < most_counted = λ n. (let e = ap (λ (x : List ℕ). length x) h.released in omega (arith, e, n)) in (
      λ has. λ there tame. (told_history j b h few spelled (size (short there (lawful tame)))).0 (has there (lawful tame)),
      λ keeps. λ there tame. (told_history j b h few spelled (size (short there tame))).1 (keeps there (sym (ap is_lawful h.client) ∙ tame)),
    )
