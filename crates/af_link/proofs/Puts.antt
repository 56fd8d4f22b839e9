-- What the steps of the end that puts keep.
use Rattle.std.proofs.Common.{◌≡◌, ℕ, ◌+◌, ◌-◌, ◌%◌, ◌^◌, ◌≤◌, true, List, [], ◌∷◌, ◌++◌, length, ◌&&◌, refl, sym, ap, ◌∙◌, subst, arith, length-append}
use Rattle.af_base.specs.declared.event.ClientEvent.TheVariants as client
use Rattle.af_base.specs.declared.event.ServerEvent.{ServerEvent}
use Rattle.af_base.specs.declared.event.ServerEvent.TheVariants as server
use Rattle.std.proofs.lemmas.List.Folds.{list_all-append}
use Rattle.af_model.specs.Point.{wrapped}
use Rattle.af_model.specs.PipeHistory.{room_by, PutKept, nothing_put, may_put, after_put, put_kept, is_taking, IsTakeList}
use Rattle.af_model.proofs.Counts.{lawful_more}
use Rattle.af_model.proofs.Orders.{after_end, legal_end}
use Rattle.af_cblk.specs.declared.view.ClientPart.{ClientPart}
use Rattle.af_cblk.specs.Parts.{client_saw_front, client_met}
use Rattle.af_cblk.proofs.Numbers.{past}
use Rattle.af_client.specs.Calls.{PutOn}
use Rattle.af_link.specs.PipeEnds.{IsPutting, room_of}

-- an end that takes goes on as one when it meets
pub takes_met : (es : List ServerEvent) (count : ℕ) → IsTakeList es → IsTakeList (es ++ server.Learn count ∷ [])
takes_met es count all = list_all-append is_taking es (server.Learn count ∷ []) ∙ ap (λ b. b && true) all

pub look_keeps : (p q : ClientPart) (rear room room' front : ℕ) → IsPutting p rear room → q ≡ client_saw_front p front → room' ≡ room_of q → IsPutting q rear room'
look_keeps p q rear room room' front k saw is =
    let size : ℕ = p.shape.frames in
    subst (λ (x : ClientPart). IsPutting x rear room') (sym saw) (
    record {
      shape = k.shape;
      from_zero = k.from_zero;
      list = legal_end (may_put size) after_put nothing_put p.events (client.SawFront front) k.list tt;
      kept = after_end (may_put size) after_put nothing_put p.events (client.SawFront front) ∙ ap (λ (x : PutKept). after_put x (client.SawFront front)) k.kept;
      lawful = lawful_more p.events (client.SawFront front) refl k.lawful;
      rear_is = k.rear_is;
      room_is = is ∙ ap room_of saw;
    })

pub met_keeps : (p q : ClientPart) (rear room : ℕ) (theirs : List ServerEvent) → IsPutting p rear room → q ≡ client_met p theirs → IsPutting q rear room
met_keeps p q rear room theirs k is =
    let size : ℕ = p.shape.frames in
    let count : ℕ = length theirs in
    subst (λ (x : ClientPart). IsPutting x rear room) (sym is) (
    record {
      shape = k.shape;
      from_zero = k.from_zero;
      list = legal_end (may_put size) after_put nothing_put p.events (client.Learn count) k.list tt;
      kept = after_end (may_put size) after_put nothing_put p.events (client.Learn count) ∙ ap (λ (x : PutKept). after_put x (client.Learn count)) k.kept;
      lawful = lawful_more p.events (client.Learn count) refl k.lawful;
      rear_is = k.rear_is;
      room_is = k.room_is;
    })

-- the room shrinks by the frames put
room-less : (size put n front : ℕ) → size ≤ 65536 → n ≤ room_by size put front → room_by size put front - n ≡ room_by size (put + n) front
room-less size put n front few fits = omega arith

pub release_keeps : (p q : ClientPart) (rear room n : ℕ) (words : List ℕ) → IsPutting p rear room → n ≤ room → length words ≡ n → PutOn p n words q → IsPutting q ((rear + n) % 2 ^ 32) (room - n)
release_keeps p q rear room n words k fits many put =
    let size : ℕ = p.shape.frames in
    let count : ℕ = length p.frames in
    let more : length (p.frames ++ words) ≡ count + n = length-append p.frames words ∙ ap (λ (z : ℕ). count + z) many in
    let here : n ≤ room_by size count p.front = subst (λ (z : ℕ). n ≤ z) k.room_is fits in
    let may : may_put size (put_kept size p.events) (client.Release n) = subst (λ (x : PutKept). may_put size x (client.Release n)) (sym k.kept) here in
    subst (λ (x : ClientPart). IsPutting x ((rear + n) % 2 ^ 32) (room - n)) (sym put) (
    record {
      shape = k.shape;
      from_zero = k.from_zero;
      list = legal_end (may_put size) after_put nothing_put p.events (client.Release n) k.list may;
      kept =
          after_end (may_put size) after_put nothing_put p.events (client.Release n)
          ∙ ap (λ (x : PutKept). after_put x (client.Release n)) k.kept
          ∙ ap (λ (z : ℕ). record { put = z; front = p.front }) (sym more);
      lawful = lawful_more p.events (client.Release n) refl k.lawful;
      rear_is = ap (λ (z : ℕ). (z + n) % 2 ^ 32) k.rear_is ∙ past count n ∙ ap wrapped (sym more);
      room_is = ap (λ (z : ℕ). z - n) k.room_is ∙ room-less size count n p.front k.shape.few here ∙ ap (λ (z : ℕ). room_by size z p.front) (sym more);
    })
