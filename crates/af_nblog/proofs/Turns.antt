-- What the turns of a round leave, and what the fronts and rears seen in it tell.
use Rattle.std.proofs.Common.{◌≡◌, ℕ, ◌+◌, ◌-◌, ◌*◌, ◌/◌, ◌<◌, ◌≤◌, inl, inr, Bool, true, false, Some, None, List, [], ◌∷◌, ◌++◌, length, refl, sym, ap, ◌∙◌, subst, arith, append_assoc, length-append}
use Rattle.af_nblog.proofs.Common.{ClientEvent, ClientPart, ServerEvent, ServerSide, ahead, append-nil, client_saw_front, room_by, room_of}
use Rattle.af_base.specs.declared.event.ClientEvent.TheVariants as client
use Rattle.af_base.specs.declared.event.ServerEvent.TheVariants as server
use Rattle.af_model.proofs.Logic.{ahead-between}
use Rattle.af_nblog.specs.declared.entries.Note.{Note}
use Rattle.af_nblog.specs.declared.writing.Noted.TheVariants.{Sent, Refused}
use Rattle.af_nblog.specs.Notes.{words_of}
use Rattle.af_nblog.specs.NoteEnds.{NotedBy, ReadBy}
use Rattle.af_nblog.specs.NoteFronts.{SeesRead}
use Rattle.af_nblog.specs.NoteRears.{SeesPut}
use Rattle.af_nblog.specs.NoteRounds.{count_accepted, RefusesLate, HasNoted, HasRead, HasDrained}

-- ## The notes of a round

-- by the front seen there is no room for a note, and the notes that it leaves were put behind those read
late_by : (room size free put read before floor : ℕ) → size ≡ 8 * room → 1 ≤ room → size / 8 ≤ size / 8 - free / 8 → free ≡ size - (put - 8 * read) → put ≤ 8 * (before + floor) → floor ≤ read → room ≤ before
late_by room size free put read before floor size_is some full free_is few told = omega arith

sent_more : (put before floor : ℕ) → put ≤ 8 * (before + floor) → put + 8 ≤ 8 * ((before + 1) + floor)
sent_more put before floor le = omega arith

-- the events of these notes, the words that they put, and that each that was refused came late
pub record Notes (p q : ClientPart) (outcomes : List Bool) : Type 0 where
  pub events : List ClientEvent
  pub is : q.events ≡ p.events ++ events
  pub shape : q.shape ≡ p.shape
  pub count : length q.frames ≡ length p.frames + 8 * count_accepted outcomes
  pub late : (room size before floor low : ℕ) (reads : List ServerEvent) (tail : List ClientEvent) → size ≡ 8 * room → 1 ≤ room → p.shape.frames ≡ size → length p.frames ≤ 8 * (before + floor) → floor ≤ low
      → SeesRead size reads (length p.frames) low (events ++ tail)
      → RefusesLate room before outcomes

none_noted : (p q : ClientPart) → q ≡ p → Notes p q []
none_noted p q is =
    record {
      events = [];
      is = ap (λ (x : ClientPart). x.events) is ∙ sym (append-nil p.events);
      shape = ap (λ (x : ClientPart). x.shape) is;
      count = ap (λ (x : ClientPart). length x.frames) is ∙ (let e : length p.frames ≡ length p.frames + 0 = omega arith in e);
      late = λ room size before floor low reads tail a b c d e s. tt;
    }

-- a note that was put
put_first : (p mid q : ClientPart) (note : Note) (outcomes : List Bool) → NotedBy p note Sent mid → Notes mid q outcomes → Notes p q (true ∷ outcomes)
put_first p mid q note outcomes by rest =
    let frames : length mid.frames ≡ length p.frames + 8 = ap (λ (x : ClientPart). length x.frames) by.1 ∙ length-append p.frames (words_of note) in
    let shape : mid.shape ≡ p.shape = ap (λ (x : ClientPart). x.shape) by.1 in
    let counted = rest.count in
    record {
      events = client.SawFront mid.front ∷ client.Release 8 ∷ rest.events;
      is = rest.is ∙ ap (λ (x : ClientPart). x.events ++ rest.events) by.1 ∙ append_assoc p.events (client.SawFront mid.front ∷ client.Release 8 ∷ []) rest.events;
      shape = rest.shape ∙ shape;
      count = omega arith;
      late = λ room size before floor low reads tail a b c d e s.
          let more : length p.frames + 8 ≤ 8 * ((before + 1) + floor) = sent_more (length p.frames) before floor d in
          rest.late room size (before + 1) floor s.0 reads tail a b (ap (λ (x : ClientPart). x.shape.frames) by.1 ∙ c) (subst (λ (n : ℕ). n ≤ 8 * ((before + 1) + floor)) (sym frames) more) (let le : low ≤ s.0 = s.1 in omega arith)
          (subst (λ (n : ℕ). SeesRead size reads n s.0 (rest.events ++ tail)) (sym frames) s.6);
    }

-- a note that was refused
refuse_first : (p mid q : ClientPart) (note : Note) (sent known : ℕ) (outcomes : List Bool) → NotedBy p note (Refused sent known) mid → Notes mid q outcomes → Notes p q (false ∷ outcomes)
refuse_first p mid q note sent known outcomes by rest =
    let saw : mid ≡ client_saw_front p mid.front = by.3 in
    let frames : length mid.frames ≡ length p.frames = ap (λ (x : ClientPart). length x.frames) saw in
    let shape : mid.shape ≡ p.shape = ap (λ (x : ClientPart). x.shape) saw in
    let full : p.shape.frames / 8 ≤ p.shape.frames / 8 - room_by p.shape.frames (length p.frames) mid.front / 8 = subst (λ (x : ClientPart). p.shape.frames / 8 ≤ x.shape.frames / 8 - room_of x / 8) saw by.0 in
    let counted = rest.count in
    record {
      events = client.SawFront mid.front ∷ rest.events;
      is = rest.is ∙ ap (λ (x : ClientPart). x.events ++ rest.events) saw ∙ append_assoc p.events (client.SawFront mid.front ∷ []) rest.events;
      shape = rest.shape ∙ shape;
      count = omega arith;
      late = λ room size before floor low reads tail a b c d e s. (
        late_by room size (room_by size (length p.frames) mid.front) (length p.frames) s.0 before floor a b
            (subst (λ (n : ℕ). n / 8 ≤ n / 8 - room_by n (length p.frames) mid.front / 8) c full) s.5 d (let le : low ≤ s.0 = s.1 in omega arith),
        rest.late room size before floor s.0 reads tail a b (ap (λ (x : ClientPart). x.shape.frames) saw ∙ c) (subst (λ (n : ℕ). n ≤ 8 * (before + floor)) (sym frames) d) (let le : low ≤ s.0 = s.1 in omega arith)
            (subst (λ (n : ℕ). SeesRead size reads n s.0 (rest.events ++ tail)) (sym frames) s.6),
      );
    }

pub notes_of_round : (outcomes : List Bool) (p q : ClientPart) → HasNoted p outcomes q → Notes p q outcomes
notes_of_round [] p q h = none_noted p q h
notes_of_round (true ∷ outcomes) p q h = put_first p h.1 q h.0 outcomes h.2 (notes_of_round outcomes h.1 q h.3)
notes_of_round (false ∷ outcomes) p q h = refuse_first p h.3 q h.0 h.1 h.2 outcomes h.4 (notes_of_round outcomes h.3 q h.5)

-- ## The reads of a round

-- the events of a note that is read
one_read : (p mid : ServerSide) (note : Note) (by : ReadBy p (Some note) mid) → mid.part.events ≡ p.part.events ++ server.SawRear by.0 ∷ server.SawFront by.1 ∷ server.Take 8 ∷ []
one_read p mid note by =
    ap (λ (x : ServerSide). x.part.events) by.2.1
    ∙ append_assoc (p.part.events ++ server.SawRear by.0 ∷ []) (server.SawFront by.1 ∷ []) (server.Take 8 ∷ [])
    ∙ append_assoc p.part.events (server.SawRear by.0 ∷ []) (server.SawFront by.1 ∷ server.Take 8 ∷ [])

-- those of a look that finds none
none_read : (p q : ServerSide) (by : ReadBy p None q) → q.part.events ≡ p.part.events ++ server.SawRear by.0 ∷ server.SawFront by.1 ∷ []
none_read p q by = ap (λ (x : ServerSide). x.part.events) by.2.1 ∙ append_assoc p.part.events (server.SawRear by.0 ∷ []) (server.SawFront by.1 ∷ [])

-- the events of a turn that reads, the words that it takes, and that it leaves nothing of what it was told before
pub record Turn (room : ℕ) (p q : ServerSide) (notes : List Note) : Type 0 where
  pub events : List ServerEvent
  pub is : q.part.events ≡ p.part.events ++ events
  pub count : length q.part.frames ≡ length p.part.frames + 8 * length notes
  pub all : (size told read low : ℕ) (puts : List ClientEvent) (tail : List ServerEvent) → size ≡ 8 * room → 1 ≤ room → size ≤ 65536 → 8 * told ≤ low → SeesPut size puts (8 * read) low (events ++ tail) → told ≤ read + length notes

none_left : (told read low put far : ℕ) → 8 * told ≤ low → low ≤ put → 8 * read ≤ put → far ≡ put - 8 * read → far < 8 → told ≤ read
none_left told read low put far a b c d e = omega arith

-- the look that finds no note
ended : (room : ℕ) (p q : ServerSide) → ReadBy p None q → Turn room p q []
ended room p q by =
    record {
      events = server.SawRear by.0 ∷ server.SawFront by.1 ∷ [];
      is = none_read p q by;
      count = ap (λ (x : ServerSide). length x.part.frames) by.2.1 ∙ (let e : length p.part.frames ≡ length p.part.frames + 0 = omega arith in e);
      all = λ size told read low puts tail a b c d s.
          let near : s.0 ≤ 8 * read + 65536 = (let le : s.0 ≤ 8 * read + size = s.3 in omega arith) in
          let far : ahead by.1 by.0 ≡ s.0 - 8 * read = ap (λ (x : ℕ × ℕ). ahead x.0 x.1) (λ i. (s.5.0 i, s.4 i)) ∙ ahead-between (8 * read) s.0 s.2 near in
          let none = none_left told read low s.0 (ahead by.1 by.0) d s.1 s.2 far by.2.0 in
          omega arith;
    }

-- a note that is read before
read_first : (room : ℕ) (p mid q : ServerSide) (note : Note) (notes : List Note) → ReadBy p (Some note) mid → Turn room mid q notes → Turn room p q (note ∷ notes)
read_first room p mid q note notes by rest =
    let frames : length mid.part.frames ≡ length p.part.frames + 8 = ap (λ (x : ServerSide). length x.part.frames) by.2.1 ∙ length-append p.part.frames (words_of note) in
    let counted = rest.count in
    record {
      events = server.SawRear by.0 ∷ server.SawFront by.1 ∷ server.Take 8 ∷ rest.events;
      is = rest.is ∙ ap (λ (es : List ServerEvent). es ++ rest.events) (one_read p mid note by) ∙ append_assoc p.part.events (server.SawRear by.0 ∷ server.SawFront by.1 ∷ server.Take 8 ∷ []) rest.events;
      count = omega arith;
      all = λ size told read low puts tail a b c d s.
          let up : 8 * told ≤ s.0 = (let le : low ≤ s.0 = s.1 in omega arith) in
          let next : 8 * read + 8 ≡ 8 * (read + 1) = omega arith in
          let more = rest.all size told (read + 1) s.0 puts tail a b c up (subst (λ (n : ℕ). SeesPut size puts n s.0 (rest.events ++ tail)) next s.5.1) in
          omega arith;
    }

until_none : (room : ℕ) (notes : List Note) (p mid q : ServerSide) → HasRead p notes mid → ReadBy mid None q → Turn room p q notes
until_none room [] p mid q h by = ended room p q (subst (λ (x : ServerSide). ReadBy x None q) h by)
until_none room (note ∷ notes) p mid q h by = read_first room p h.0 q note notes h.1 (until_none room notes h.0 mid q h.2 by)

-- the events and the words of notes that are read
record Reads (p q : ServerSide) (notes : List Note) : Type 0 where
  pub events : List ServerEvent
  pub is : q.part.events ≡ p.part.events ++ events
  pub count : length q.part.frames ≡ length p.part.frames + 8 * length notes

reads_of : (notes : List Note) (p q : ServerSide) → HasRead p notes q → Reads p q notes
reads_of [] p q h =
    record {
      events = [];
      is = ap (λ (x : ServerSide). x.part.events) h ∙ sym (append-nil p.part.events);
      count = ap (λ (x : ServerSide). length x.part.frames) h ∙ (let e : length p.part.frames ≡ length p.part.frames + 0 = omega arith in e);
    }
reads_of (note ∷ notes) p q h =
    let rest : Reads h.0 q notes = reads_of notes h.0 q h.2 in
    let frames : length h.0.part.frames ≡ length p.part.frames + 8 = ap (λ (x : ServerSide). length x.part.frames) h.1.2.1 ∙ length-append p.part.frames (words_of note) in
    let counted = rest.count in
    record {
      events = server.SawRear h.1.0 ∷ server.SawFront h.1.1 ∷ server.Take 8 ∷ rest.events;
      is = rest.is ∙ ap (λ (es : List ServerEvent). es ++ rest.events) (one_read p h.0 note h.1) ∙ append_assoc p.part.events (server.SawRear h.1.0 ∷ server.SawFront h.1.1 ∷ server.Take 8 ∷ []) rest.events;
      count = omega arith;
    }

-- as many as there is room for: the first rear seen is no further off than that
as_many : (room : ℕ) (notes : List Note) (p q : ServerSide) → room ≤ length notes → HasRead p notes q → Turn room p q notes
unfolding reads_of
as_many room [] p q many h =
    let r : Reads p q [] = reads_of [] p q h in
    record { events = r.events; is = r.is; count = r.count; all = λ size told read low puts tail a b c d s. absurd (let none : room ≤ 0 = many in omega arith) }
as_many room (note ∷ notes) p q many h =
    let r : Reads p q (note ∷ notes) = reads_of (note ∷ notes) p q h in
    record {
      events = r.events;
      is = r.is;
      count = r.count;
      all = λ size told read low puts tail a b c d s.
          let up : low ≤ s.0 = s.1 in
          let near : s.0 ≤ 8 * read + size = s.3 in
          omega arith;
    }

pub turn_of_round : (room : ℕ) (notes : List Note) (p q : ServerSide) → HasDrained room p notes q → Turn room p q notes
turn_of_round room notes p q h = elim h [ inl x ↦ until_none room notes p x.0 q x.1 x.2 | inr y ↦ as_many room notes p q y.0 y.1 ]

-- one note more is read
pub one_more_read : (notes : List Note) (p mid q : ServerSide) (note : Note) → HasRead p notes mid → ReadBy mid (Some note) q → HasRead p (notes ++ note ∷ []) q
one_more_read [] p mid q note h by = (q, subst (λ (x : ServerSide). ReadBy x (Some note) q) h by, refl)
one_more_read (first ∷ notes) p mid q note h by = (h.0, h.1, one_more_read notes h.0 mid q note h.2 by)
