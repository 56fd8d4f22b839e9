-- What a read leaves of the end that reads.
use Rattle.std.proofs.Common.{◌≡◌, ℕ, ◌+◌, ◌*◌, ◌<◌, ◌≤◌, min, true, false, List, [], ◌∷◌, ◌++◌, length, map, refl, sym, ap, ◌∙◌, subst, arith, append_assoc, length-append}
use Rattle.af_nblog.proofs.Common.{Frame, ServerEvent, ServerIs, ServerPart, ServerSide, Shape, list_all, new_server, packed_word, taken_by, wrapped}
use Rattle.af_base.specs.declared.event.ServerEvent.TheVariants as server
use Rattle.af_nblog.specs.declared.entries.Note.{Note}
use Rattle.af_nblog.specs.Notes.{words_of, notes_in}
use Rattle.af_nblog.specs.NoteEnds.{looked, note_taken, IsReading}
use Rattle.af_nblog.specs.NoteFronts.{takes_note}
use Rattle.af_nblog.proofs.Spelling.{none_spelled, one_more}
use Rattle.af_nblog.proofs.Fronts.{both_take}

-- a new end has read nothing
pub new_reading : (t : ServerPart) (s : Shape) → t ≡ new_server s → IsReading t
new_reading t s is = subst (λ (x : ServerPart). IsReading x) (sym is) (record { whole = ap (λ (ns : List Note). 8 * length ns) (sym none_spelled); takes = refl })

-- events that take nothing leave it as it was
pub reading_same : (s t : ServerPart) (events : List ServerEvent) → t.frames ≡ s.frames → t.events ≡ s.events ++ events → list_all takes_note events ≡ true → IsReading s → IsReading t
reading_same s t events same is all k =
    record {
      whole = subst (λ (ws : List ℕ). length ws ≡ 8 * length (notes_in ws)) (sym same) k.whole;
      takes = ap (list_all takes_note) is ∙ both_take s.events events k.takes all;
    }

-- what a look for eight frames shows
pub shown_less : (n x : ℕ) → n ≡ min 8 x → n < 8 → x < 8
shown_less n x is less = omega arith

pub shown_more : (n x : ℕ) → n ≡ min 8 x → 8 ≤ n → 8 ≤ x
shown_more n x is more = omega arith

eight_more : (n a b : ℕ) → a ≡ 8 * n → b ≡ n + 1 → a + 8 ≡ 8 * b
eight_more n a b x y = omega arith

module _ (s t : ServerPart) (note : Note) (k : IsReading s) (more : t.frames ≡ s.frames ++ words_of note) where
  pub read_notes : notes_in t.frames ≡ notes_in s.frames ++ note ∷ []
  read_notes = ap notes_in more ∙ one_more (length (notes_in s.frames)) s.frames note k.whole

  pub reading_more : (events : List ServerEvent) → t.events ≡ s.events ++ events → list_all takes_note events ≡ true → IsReading t
  reading_more events is all =
      record {
        whole =
            ap length more ∙ length-append s.frames (words_of note)
            ∙ eight_more (length (notes_in s.frames)) (length s.frames) (length (notes_in t.frames)) k.whole (ap length read_notes ∙ length-append (notes_in s.frames) (note ∷ []));
        takes = ap (list_all takes_note) is ∙ both_take s.events events k.takes all;
      }

-- a look and a take of eight frames
pub read_one : (p mid q : ServerSide) (rear front : ℕ) (into : List Frame) (note : Note) → ServerIs (looked p.part rear front) p mid → ServerIs (taken_by mid.part into) mid q → length into ≡ 8 → words_of note ≡ map packed_word into
    → ServerIs (note_taken (looked p.part rear front) (words_of note)) p q
read_one p mid q rear front into note look take count words =
    take
    ∙ ap (λ (x : ServerSide). record x { part = taken_by x.part into }) look
    ∙ ap (λ (y : ℕ × List ℕ). record p {
      part = record (looked p.part rear front) {
        events = (looked p.part rear front).events ++ server.Take y.0 ∷ [];
        frames = (looked p.part rear front).frames ++ y.1;
        front = wrapped (front + y.0);
        fresh = false;
        flush_fresh = false;
        rear_fresh = false;
        loaded = [];
      };
    }) (λ i. (count i, sym words i))

-- the words that it leaves
pub read_frames : (p mid q : ServerSide) (rear front : ℕ) (into : List Frame) (note : Note) → ServerIs (looked p.part rear front) p mid → ServerIs (taken_by mid.part into) mid q → words_of note ≡ map packed_word into
    → q.part.frames ≡ p.part.frames ++ words_of note
read_frames p mid q rear front into note look take words =
    ap (λ (x : ServerSide). x.part.frames) take ∙ ap (λ (x : ServerSide). x.part.frames ++ map packed_word into) look ∙ ap (λ (ws : List ℕ). p.part.frames ++ ws) (sym words)

-- its events: two looks, and a take of eight
pub looked_events : (p mid : ServerSide) (rear front : ℕ) → ServerIs (looked p.part rear front) p mid → mid.part.events ≡ p.part.events ++ server.SawRear rear ∷ server.SawFront front ∷ []
looked_events p mid rear front look = ap (λ (x : ServerSide). x.part.events) look ∙ append_assoc p.part.events (server.SawRear rear ∷ []) (server.SawFront front ∷ [])

pub read_events : (p mid q : ServerSide) (rear front : ℕ) (into : List Frame) → ServerIs (looked p.part rear front) p mid → ServerIs (taken_by mid.part into) mid q → length into ≡ 8
    → q.part.events ≡ p.part.events ++ server.SawRear rear ∷ server.SawFront front ∷ server.Take 8 ∷ []
read_events p mid q rear front into look take count =
    ap (λ (x : ServerSide). x.part.events) take ∙ ap (λ (x : List ServerEvent × ℕ). x.0 ++ server.Take x.1 ∷ []) (λ i. (looked_events p mid rear front look i, count i))
    ∙ append_assoc p.part.events (server.SawRear rear ∷ server.SawFront front ∷ []) (server.Take 8 ∷ [])
