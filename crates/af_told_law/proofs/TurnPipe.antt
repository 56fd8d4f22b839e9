-- What a turn of the normal mixer does to the pipe is told by the run: the front that it saw is the one that its room tells.
use Rattle.std.proofs.Common.{◌≡◌, ℕ, ◌+◌, ◌-◌, ◌%◌, ◌≤◌, ◌==◌, Bool, true, false, if◌then◌else◌, nat_le, List, [], ◌∷◌, ◌++◌, length, refl, ap, subst, arith}
use Rattle.af_told_law.proofs.Common.{ClientEvent, Event, HasPipeHistory, Legal, PipePoint, ServerEvent, point_after, front_by_room, length-append, one, ones, releases_of, room_by, two, wrapped}
use Rattle.af_base.specs.declared.event.ClientEvent.TheVariants as client
use Rattle.af_base.specs.declared.event.ServerEvent.TheVariants as server
use Rattle.af_enough_law.specs.Seen.{frames_put}
use Rattle.af_model.specs.PipeHistory as piped
use Rattle.af_enough_law.proofs.Basics.{put-append}

module _ (size : ℕ) where
  -- no more was taken than shown, nor shown than put, nor put than there is room for
  record IsWithin (p : PipePoint) : Type 0 where
    shown : p.taken ≤ p.shown
    put : p.shown ≤ p.put
    room : p.put ≤ p.taken + size

  within_next : (p : PipePoint) (e : Event ClientEvent ServerEvent) → IsWithin p → piped.legal_in_pipe size p e → IsWithin (piped.next_in_pipe p e)
  within_next p (one (client.Release count)) h l = record { shown = h.shown; put = (let a = h.put in omega arith); room = l }
  within_next p (one (client.SawFront front)) h l = record { shown = h.shown; put = h.put; room = h.room }
  within_next p (one (client.Learn count)) h l = record { shown = h.shown; put = h.put; room = h.room }
  within_next p (two (server.SawRear rear)) h l = record { shown = (let a = h.shown in let b = h.put in omega arith); put = omega arith; room = h.room }
  within_next p (two (server.SawFront front)) h l = record { shown = h.shown; put = h.put; room = h.room }
  within_next p (two (server.Take count)) h l = record { shown = l; put = h.put; room = (let a = h.room in omega arith) }
  within_next p (two (server.Learn count)) h l = record { shown = h.shown; put = h.put; room = h.room }
  within_next p e h l = absurd l

  -- the point at which a front was seen
  record SeenAt (put front : ℕ) : Type 0 where
    at : PipePoint
    within : IsWithin at
    put_is : at.put ≡ put
    may : front ≡ wrapped at.taken

  put_one : (p : PipePoint) (e : ClientEvent) → (piped.next_in_pipe p (one e)).put ≡ p.put + frames_put (e ∷ [])
  put_one p (client.Release count) = omega arith
  put_one p e = omega arith

  put_two : (p : PipePoint) (e : ServerEvent) → (piped.next_in_pipe p (two e)).put ≡ p.put
  put_two p (server.SawRear rear) = refl
  put_two p (server.Take count) = refl
  put_two p e = refl

  put_first : (e : ClientEvent) (es : List ClientEvent) → frames_put (e ∷ es) ≡ frames_put (e ∷ []) + frames_put es
  put_first (client.Release count) es = omega arith
  put_first e es = omega arith

  seen_at : (p : PipePoint) (order : List (Event ClientEvent ServerEvent)) → IsWithin p → Legal (piped.legal_in_pipe size) piped.next_in_pipe p order → (before behind : List ClientEvent) (front : ℕ) → ones order ≡ before ++ client.SawFront front ∷ behind → SeenAt (p.put + frames_put before) front
  seen_at p [] h l [] behind front is = absurd (omega (arith, ap length is))
  seen_at p [] h l (b ∷ before) behind front is = absurd (omega (arith, ap length is))
  seen_at p (two e ∷ order) h l before behind front is =
      subst (λ (n : ℕ). SeenAt (n + frames_put before) front) (put_two p e) (seen_at (piped.next_in_pipe p (two e)) order (within_next p (two e) h l.0) l.1 before behind front is)
  seen_at p (one e ∷ order) h l [] behind front is =
      let here : e ≡ client.SawFront front = ap (first_or e) is in
      record { at = p; within = h; put_is = omega arith; may = (subst (λ (x : ClientEvent). piped.legal_in_pipe size p (one x)) here l.0).0 }
    where
      first_or : ClientEvent → List ClientEvent → ClientEvent
      first_or d [] = d
      first_or d (x ∷ xs) = x
  seen_at p (one e ∷ order) h l (b ∷ before) behind front is =
      let here : e ≡ b = ap (first_or e) is in
      let rest : ones order ≡ before ++ client.SawFront front ∷ behind = ap rest_of is in
      let found = seen_at (piped.next_in_pipe p (one e)) order (within_next p (one e) h l.0) l.1 before behind front rest in
      let same : (piped.next_in_pipe p (one e)).put + frames_put before ≡ p.put + frames_put (b ∷ before) =
      (let a = put_one p e in let c = put_first b before in let d = ap (λ (x : ClientEvent). frames_put (x ∷ [])) here in omega arith) in
      subst (λ (n : ℕ). SeenAt n front) same found
    where
      first_or : ClientEvent → List ClientEvent → ClientEvent
      first_or d [] = d
      first_or d (x ∷ xs) = x

      rest_of : List ClientEvent → List ClientEvent
      rest_of [] = []
      rest_of (x ∷ xs) = xs

  -- ## Frames put

  put_released : (cells put n : ℕ) → frames_put (releases_of cells put n) ≡ n
  put_released cells put n = by_none (n == 0) refl
    where
      left : ℕ
      left = cells - put % cells

      by_left : (b : Bool) → nat_le n left ≡ b → frames_put (if b then client.Release n ∷ [] else client.Release left ∷ client.Release (n - left) ∷ []) ≡ n
      by_left true is = omega arith
      by_left false is = let more : left ≤ n = grind arith in omega arith

      by_none : (b : Bool) → (n == 0) ≡ b → frames_put (if b then [] else if nat_le n left then client.Release n ∷ [] else client.Release left ∷ client.Release (n - left) ∷ []) ≡ n
      by_none true is = let none : n ≡ 0 = grind arith in omega arith
      by_none false is = by_left (nat_le n left) refl

  -- all that was put before the last put
  put_all : (puts : List ClientEvent) (put : List ℕ) (takes : List ServerEvent) (taken : List ℕ) → HasPipeHistory size puts put takes taken → length put ≡ frames_put puts
  put_all puts put takes taken h = let a = h.put_is in let b = after_put piped.start_of_pipe h.history.order in let c = ap frames_put h.history.of_one in omega arith
    where
      after_put : (p : PipePoint) (es : List (Event ClientEvent ServerEvent)) → (point_after (piped.legal_in_pipe size) piped.next_in_pipe p es).put ≡ p.put + frames_put (ones es)
      after_put p [] = omega arith
      after_put p (one e ∷ es) = let rest = after_put (piped.next_in_pipe p (one e)) es in let now = put_one p e in let all = put_first e (ones es) in omega arith
      after_put p (two e ∷ es) = let rest = after_put (piped.next_in_pipe p (two e)) es in let now = put_two p e in omega arith

  -- ## The front by the room

  front_words : (put front taken : ℕ) → size ≤ 65536 → front ≡ wrapped taken → taken ≤ put → put ≤ taken + size → front_by_room size put (room_by size put front) ≡ front
  front_words put front taken few is low high = omega (arith, few, is, low, high)

  -- A front that was seen after so many frames were put, and before such a put, is the one that the room by it tells
  pub front_told : size ≤ 65536 → (before : List ClientEvent) (front cells n count : ℕ) (put more taken : List ℕ) (takes : List ServerEvent) → length more ≡ n
      → HasPipeHistory size (before ++ client.SawFront front ∷ (releases_of cells (length put) n ++ client.Learn count ∷ [])) (put ++ more) takes taken → front_by_room size (length put) (room_by size (length put) front) ≡ front
  front_told few before front cells n count put more taken takes long h =
      let behind : List ClientEvent = releases_of cells (length put) n ++ client.Learn count ∷ [] in
      let all = put_all (before ++ client.SawFront front ∷ behind) (put ++ more) takes taken h in
      let parts = put-append before (client.SawFront front ∷ behind) in
      let released = put-append (releases_of cells (length put) n) (client.Learn count ∷ []) in
      let some = put_released cells (length put) n in
      let sum = length-append put more in
      let seen = seen_at piped.start_of_pipe h.history.order (record { shown = omega arith; put = omega arith; room = omega arith }) h.history.is_legal before behind front h.history.of_one in
      let here : seen.at.put ≡ length put = (let a = seen.put_is in omega arith) in
      front_words (length put) front seen.at.taken few seen.may (let a = seen.within.shown in let b = seen.within.put in omega arith) (let a = seen.within.room in omega arith)
