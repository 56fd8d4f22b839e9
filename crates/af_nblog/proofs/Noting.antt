-- What a note leaves of the end that notes.
use Rattle.std.proofs.Common.{◌≡◌, ℕ, ◌+◌, ◌-◌, ◌*◌, ◌/◌, ◌<◌, ◌≤◌, List, [], ◌∷◌, ◌++◌, length, map, refl, sym, ap, ◌∙◌, subst, arith, append_assoc, length-append}
use Rattle.af_nblog.proofs.Common.{ClientEvent, ClientPart, Frame, HasPut, IsShape, Shape, client_saw_front, length-map, new_client, packed_word, releases_of, room_of}
use Rattle.af_base.specs.declared.event.ClientEvent.TheVariants as client
use Rattle.af_nblog.specs.declared.entries.Note.{Note}
use Rattle.af_nblog.specs.declared.writing.Noted.TheVariants.{Sent, Refused}
use Rattle.af_nblog.specs.Notes.{words_of, notes_in}
use Rattle.af_nblog.specs.NoteEnds.{left_by, NotedBy, IsNoting}
use Rattle.af_nblog.proofs.Spelling.{none_spelled, one_more}
use Rattle.af_nblog.proofs.Releases.{one_release}

-- what holds of the end goes by its shape and its words
pub noting_same : (p q : ClientPart) (sent room : ℕ) → q.shape ≡ p.shape → q.frames ≡ p.frames → IsNoting p sent room → IsNoting q sent room
noting_same p q sent room shape frames k =
    record {
      shape = subst (λ (s : Shape). IsShape s) (sym shape) k.shape;
      size = ap (λ (s : Shape). s.frames) shape ∙ k.size;
      some = k.some;
      whole = ap length frames ∙ k.whole;
      sent_is = k.sent_is ∙ sym (ap (λ (ws : List ℕ). length (notes_in ws)) frames);
    }

-- a new end has noted nothing
pub new_noting : (p : ClientPart) (s : Shape) (room : ℕ) → p ≡ new_client s → s.frames ≡ 8 * room → 1 ≤ room → IsShape s → IsNoting p 0 room
new_noting p s room is size some shape =
    subst (λ (x : ClientPart). IsNoting x 0 room) (sym is)
    (record { shape = shape; size = size; some = some; whole = refl; sent_is = sym (ap length none_spelled) })

-- ## A note that is refused

-- a look leaves it as it was
pub look_keeps : (p q : ClientPart) (sent room : ℕ) → IsNoting p sent room → q ≡ client_saw_front p q.front → IsNoting q sent room
look_keeps p q sent room k saw = noting_same p q sent room (ap (λ (x : ClientPart). x.shape) saw) (ap (λ (x : ClientPart). x.frames) saw) k

full : (frames frames' free : ℕ) → frames' ≡ frames → free < 8 → frames / 8 ≤ frames' / 8 - free / 8
full frames frames' free same less = omega arith

known : (sent room frames free : ℕ) → frames ≡ 8 * room → free < 8 → sent - room ≡ sent - (frames / 8 - free / 8)
known sent room frames free size less = omega arith

-- the room by the front seen is less than a note
pub noted_refused : (p q : ClientPart) (note : Note) (sent room : ℕ) → IsNoting p sent room → q ≡ client_saw_front p q.front → room_of q < 8 → NotedBy p note (Refused sent (sent - room)) q
noted_refused p q note sent room k saw less =
    let shape : q.shape.frames ≡ p.shape.frames = ap (λ (x : ClientPart). x.shape.frames) saw in
    let notes : length (notes_in q.frames) ≡ length (notes_in p.frames) = ap (λ (x : ClientPart). length (notes_in x.frames)) saw in (
      full p.shape.frames q.shape.frames (room_of q) shape less,
      k.sent_is,
      known sent room q.shape.frames (room_of q) (shape ∙ k.size) less ∙ ap (λ (n : ℕ). n - left_by q) (k.sent_is ∙ sym notes),
      saw,
    )

-- ## Each note is accepted or refused

pub one_refused : (a a' b b' : ℕ) → a ≡ a' → b ≡ b' → a + (b + 1) ≡ (a' + b') + 1
one_refused a a' b b' x y = omega arith

pub one_accepted : (a a' b b' : ℕ) → a ≡ a' + 1 → b ≡ b' → a + b ≡ (a' + b') + 1
one_accepted a a' b b' x y = omega arith

-- ## A note that is accepted

-- a look at the front, eight frames and a release
pub ten_steps : (s t u a b : ℕ) → t ≡ s + 1 → u ≡ (t + a) + b → a ≡ 8 → b ≡ 1 → u ≡ s + 10
ten_steps s t u a b x y eight one = omega arith

eight_more : (sent n m : ℕ) → n ≡ 8 * sent → m ≡ 8 → n + m ≡ 8 * (sent + 1)
eight_more sent n m a b = omega arith

left_less : (frames room free : ℕ) → frames ≡ 8 * room → 1 ≤ room → 8 ≤ free → frames / 8 - free / 8 < frames / 8
left_less frames room free size some more = omega arith

module _ (p q : ClientPart) (note : Note) (frames : List Frame) (sent room : ℕ) (k : IsNoting p sent room) (words : map packed_word frames ≡ words_of note) (put : HasPut p frames q) where
  pub count : length frames ≡ 8
  count = sym (length-map frames packed_word) ∙ ap length words

  frames_is : q.frames ≡ p.frames ++ words_of note
  frames_is = ap (λ (x : ClientPart). x.frames) put ∙ ap (λ (ws : List ℕ). p.frames ++ ws) words

  -- the notes put have one more
  pub put_notes : notes_in q.frames ≡ notes_in p.frames ++ note ∷ []
  put_notes = ap notes_in frames_is ∙ one_more sent p.frames note k.whole

  pub put_keeps : IsNoting q (sent + 1) room
  put_keeps =
      let shape : q.shape ≡ p.shape = ap (λ (x : ClientPart). x.shape) put in
      record {
        shape = subst (λ (s : Shape). IsShape s) (sym shape) k.shape;
        size = ap (λ (s : Shape). s.frames) shape ∙ k.size;
        some = k.some;
        whole = ap length frames_is ∙ length-append p.frames (words_of note) ∙ eight_more sent (length p.frames) 8 k.whole refl;
        sent_is = ap (λ (n : ℕ). n + 1) k.sent_is ∙ sym (length-append (notes_in p.frames) (note ∷ [])) ∙ sym (ap length put_notes);
      }

  -- it was put in one release
  put_releases : releases_of p.shape.cells (length p.frames) (length frames) ≡ client.Release 8 ∷ []
  put_releases = ap (λ (x : ℕ × ℕ). releases_of p.shape.cells x.0 x.1) (λ i. (k.whole i, count i)) ∙ one_release p.shape sent room k.shape k.size k.some

  pub release_count : (cells : ℕ) → p.shape.cells ≡ cells → length (releases_of cells (length p.frames) (length frames)) ≡ 1
  release_count cells is = subst (λ (z : ℕ). length (releases_of z (length p.frames) (length frames)) ≡ 1) is (ap length put_releases)

  put_is : q ≡ (record p { events = p.events ++ client.Release 8 ∷ []; frames = p.frames ++ words_of note; stored = q.stored })
  put_is =
      put ∙ ap (λ (x : List ClientEvent × List ℕ). record p { events = p.events ++ x.0; frames = p.frames ++ x.1; stored = q.stored }) (λ i. (put_releases i, words i))

  -- after the look at the front
  pub noted_sent : (o : ClientPart) → p ≡ client_saw_front o p.front → 8 ≤ room_of p → NotedBy o note Sent q
  noted_sent o saw more =
      let front : p.front ≡ q.front = sym (ap (λ (x : ClientPart). x.front) put) in
      let by : p ≡ client_saw_front o q.front = saw ∙ ap (client_saw_front o) front in
      let shape : p.shape.frames ≡ o.shape.frames = ap (λ (x : ClientPart). x.shape.frames) saw in (
        left_less o.shape.frames room (room_of (client_saw_front o q.front)) (sym shape ∙ k.size) k.some (subst (λ (x : ClientPart). 8 ≤ room_of x) by more),
        put_is
            ∙ ap (λ (x : ClientPart). record x { events = x.events ++ client.Release 8 ∷ []; frames = x.frames ++ words_of note; stored = q.stored }) by
            ∙ ap (λ (es : List ClientEvent). record o { events = es; front = q.front; frames = o.frames ++ words_of note; stored = q.stored }) (append_assoc o.events (client.SawFront q.front ∷ []) (client.Release 8 ∷ [])),
      )
