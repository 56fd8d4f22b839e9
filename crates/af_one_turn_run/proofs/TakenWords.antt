-- Which frames a server's events take of those released.
use Rattle.std.proofs.Common.{◌≡◌, ℕ, ◌≤◌, ◌==◌, max, if◌then◌else◌, Bool, true, false, map, List, [], ◌∷◌, ◌++◌, refl, sym, ap, ◌∙◌, arith, append_assoc, append-nil}
use Rattle.af_one_turn_run.proofs.Common.{ClientEvent, HandEvent, Moment, ServerEvent, Shape, TrackPoint, after, after_client, after_hand, after_server, append_cancel_left, by_client, by_hand, by_server, drop_end, server_put, start, taken_of, with_taken, told_more}
use Rattle.af_base.specs.declared.event.ClientEvent.TheVariants as client
use Rattle.af_base.specs.declared.event.ServerEvent.TheVariants as server
use Rattle.af_base.specs.declared.event.HandEvent.TheVariants as hand
use Rattle.af_one_turn_run.proofs.Seeing.{after_servers}
use Rattle.af_one_turn_run.proofs.Taking.{takes_at, taken_by, IsFrom, HasFrames}

-- ## Positions

drop_from : (base : ℕ) (p : TrackPoint) → IsFrom base p → base ≤ drop_end p
drop_from base p h = by_wrap (p.wrap == 0)
  where
    by_wrap : (b : Bool) → base ≤ (if b then p.rear_seen else max p.drop_to p.consumed)
    by_wrap true = h.rear_seen
    by_wrap false = let c = h.consumed in omega (arith, c)

from_client : (base : ℕ) (p : TrackPoint) (e : ClientEvent) → IsFrom base p → IsFrom base (after_client p e)
from_client base p (client.Release count) h = record { released = (let r = h.released in omega (arith, r)); consumed = h.consumed; rear_seen = h.rear_seen }
from_client base p client.Flush h = record { released = h.released; consumed = h.consumed; rear_seen = h.rear_seen }
from_client base p (client.SetGain word) h = record { released = h.released; consumed = h.consumed; rear_seen = h.rear_seen }
from_client base p (client.ClearFlags old) h = record { released = h.released; consumed = h.consumed; rear_seen = h.rear_seen }
from_client base p e h = h

pub from_server : (base : ℕ) (p : TrackPoint) (e : ServerEvent) → IsFrom base p → IsFrom base (after_server p e)
from_server base p (server.SawFlush flush) h = record { released = h.released; consumed = h.consumed; rear_seen = h.rear_seen }
from_server base p (server.SawRear rear) h = record { released = h.released; consumed = h.consumed; rear_seen = h.released }
from_server base p (server.Drop to) h = record { released = h.released; consumed = drop_from base p h; rear_seen = h.rear_seen }
from_server base p (server.Take count) h = record { released = h.released; consumed = (let c = h.consumed in omega (arith, c)); rear_seen = h.rear_seen }
from_server base p (server.Tally missing) h = record { released = h.released; consumed = h.consumed; rear_seen = h.rear_seen }
from_server base p (server.SetFlags bits) h = record { released = h.released; consumed = h.consumed; rear_seen = h.rear_seen }
from_server base p (server.SetStatus word) h = record { released = h.released; consumed = h.consumed; rear_seen = h.rear_seen }
from_server base p e h = h

from_hand : (base : ℕ) (p : TrackPoint) (e : HandEvent) → IsFrom base p → IsFrom base (after_hand p e)
from_hand base p (hand.SetFlags bits) h = record { released = h.released; consumed = h.consumed; rear_seen = h.rear_seen }
from_hand base p (hand.Met count) h = h

-- no position lies before the base at any point of a block
pub from_base : (k : Shape) (told : List Moment) → IsFrom k.base (after (start k) told)
from_base k [] = record { released = omega arith; consumed = omega arith; rear_seen = omega arith }
from_base k (by_client e ∷ told) = from_client k.base (after (start k) told) e (from_base k told)
from_base k (by_server e ∷ told) = from_server k.base (after (start k) told) e (from_base k told)
from_base k (by_hand e ∷ told) = from_hand k.base (after (start k) told) e (from_base k told)

pub frames_after : (frames : List ℕ) (base : ℕ) (p : TrackPoint) (es : List ServerEvent) → HasFrames frames base p → HasFrames frames base (after_servers p es)
frames_after frames base p [] h = h
frames_after frames base p (e ∷ es) h = frames_after frames base (after_server p e) es (record { places = from_server base p e h.places; within = (let w = h.within in let s = server_put p e in omega (arith, w, s)) })

-- ## What is taken

pub taken_parts : (frames : List ℕ) (base : ℕ) (p : TrackPoint) (xs ys : List ServerEvent) → taken_by frames base p (xs ++ ys) ≡ taken_by frames base p xs ++ taken_by frames base (after_servers p xs) ys
taken_parts frames base p [] ys = refl
taken_parts frames base p (x ∷ xs) ys = ap (λ (ws : List ℕ). takes_at frames base p x ++ ws) (taken_parts frames base (after_server p x) xs ys) ∙ sym (append_assoc (takes_at frames base p x) (taken_by frames base (after_server p x) xs) (taken_by frames base (after_servers (after_server p x) xs) ys))

one_taken : (frames : List ℕ) (base : ℕ) (p : TrackPoint) (taken : List ℕ) (e : ServerEvent) → with_taken frames base p taken e ≡ taken ++ takes_at frames base p e
one_taken frames base p taken (server.Take count) = refl
one_taken frames base p taken e = sym (append-nil taken)

-- the frames that events of a server add to those taken
pub told_taken : (frames : List ℕ) (k : Shape) (told : List Moment) (es : List ServerEvent) → taken_of frames k (told_more told (map by_server es)) ≡ taken_of frames k told ++ taken_by frames k.base (after (start k) told) es
told_taken frames k told [] = sym (append-nil (taken_of frames k told))
told_taken frames k told (e ∷ es) =
    told_taken frames k (by_server e ∷ told) es
    ∙ ap (λ (ws : List ℕ). ws ++ taken_by frames k.base (after_server (after (start k) told) e) es) (one_taken frames k.base (after (start k) told) (taken_of frames k told) e)
    ∙ append_assoc (taken_of frames k told) (takes_at frames k.base (after (start k) told) e) (taken_by frames k.base (after_server (after (start k) told) e) es)

-- the words that were taken are those that the events take
pub words_told : (frames : List ℕ) (k : Shape) (told : List Moment) (es : List ServerEvent) (taken words : List ℕ) → taken_of frames k told ≡ taken → taken_of frames k (told_more told (map by_server es)) ≡ taken ++ words
    → words ≡ taken_by frames k.base (after (start k) told) es
words_told frames k told es taken words before after_is =
    append_cancel_left taken words (taken_by frames k.base (after (start k) told) es) (sym after_is ∙ told_taken frames k told es ∙ ap (λ (ws : List ℕ). ws ++ taken_by frames k.base (after (start k) told) es) before)
