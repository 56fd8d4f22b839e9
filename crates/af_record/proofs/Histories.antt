-- Supplies and reads, one more, and what a recording comes to.
use Rattle.std.proofs.Common.{◌≡◌, ℕ, ◌+◌, ◌-◌, List, [], ◌∷◌, ◌++◌, length, take, drop, map, refl, sym, ap, ◌∙◌, arith, append_assoc, append-nil, length-append, length-take-le}
use Rattle.af_record.proofs.Common.{Frame, length-drop, length-map, packed_word, take-append-drop}
use Rattle.af_record.specs.Supplies.{Supply, supply_of, kept, count_lost, count_supplied, all_read, IsCaptureHistory}
use Rattle.af_record.specs.Ends.{CaptureState, ListenerState, CameBy, ReadBy}

kept-more : (ss : List Supply) (s : Supply) → kept (ss ++ s ∷ []) ≡ kept ss ++ s.put
kept-more [] s = append-nil s.put
kept-more (r ∷ ss) s = ap (λ (l : List ℕ). r.put ++ l) (kept-more ss s) ∙ sym (append_assoc r.put (kept ss) s.put)

lost-more : (ss : List Supply) (s : Supply) → count_lost (ss ++ s ∷ []) ≡ count_lost ss + length s.lost
lost-more [] s = omega arith
lost-more (r ∷ ss) s = let e = lost-more ss s in omega arith

supplied-more : (ss : List Supply) (s : Supply) → count_supplied (ss ++ s ∷ []) ≡ count_supplied ss + (length s.put + length s.lost)
supplied-more [] s = omega arith
supplied-more (r ∷ ss) s = let e = supplied-more ss s in omega arith

read-more : (rs : List (List ℕ)) (r : List ℕ) → all_read (rs ++ r ∷ []) ≡ all_read rs ++ r
read-more [] r = append-nil r
read-more (q ∷ rs) r = ap (λ (l : List ℕ). q ++ l) (read-more rs r) ∙ sym (append_assoc q (all_read rs) r)

-- one supply more
pub came_more : (ss : List Supply) (c d : CaptureState) (frames : List Frame) (put lost : ℕ) → put + lost ≡ length frames → d.pass.part.frames ≡ c.pass.part.frames ++ map packed_word (take put frames)
    → d.supplied ≡ c.supplied + length frames → d.overrun ≡ c.overrun + lost → CameBy ss c → CameBy (ss ++ supply_of frames put ∷ []) d
came_more ss c d frames put lost sum frames_are supplied overrun k =
    let s : Supply = supply_of frames put in
    let a : length (map packed_word (take put frames)) ≡ length (take put frames) = length-map (take put frames) packed_word in
    let b : length (take put frames) ≡ put = length-take-le put frames (omega arith) in
    let e : length (map packed_word (drop put frames)) ≡ length (drop put frames) = length-map (drop put frames) packed_word in
    let f : length (drop put frames) ≡ length frames - put = length-drop put frames in
    let g = supplied-more ss s in
    let h = lost-more ss s in
    let i = k.supplied_is in
    let j = k.overrun_is in
    record {
      kept_is = frames_are ∙ ap (λ (l : List ℕ). l ++ map packed_word (take put frames)) k.kept_is ∙ sym (kept-more ss s);
      supplied_is = omega arith;
      overrun_is = omega arith;
    }

-- one read more
pub read_on : (rs : List (List ℕ)) (l m : ListenerState) (words : List ℕ) (count : ℕ) → m.pass.part.frames ≡ l.pass.part.frames ++ words → m.total ≡ l.total + count → length words ≡ count → ReadBy rs l → ReadBy (rs ++ words ∷ []) m
read_on rs l m words count frames_are total size k =
    let a = ap length (read-more rs words) ∙ length-append (all_read rs) words in
    let b = k.total_is in
    record {
      frames_are = frames_are ∙ ap (λ (x : List ℕ). x ++ words) k.frames_are ∙ sym (read-more rs words);
      total_is = omega arith;
    }

put_or_lost : (ss : List Supply) → count_supplied ss ≡ length (kept ss) + count_lost ss
put_or_lost [] = refl
put_or_lost (s ∷ ss) = let e = put_or_lost ss in let f = length-append s.put (kept ss) in omega arith

-- if what was taken begins what was put, the reads are a beginning of the kept list
pub capture_history : (ss : List Supply) (rs : List (List ℕ)) (c : CaptureState) (l : ListenerState) → l.pass.part.frames ≡ take (length l.pass.part.frames) c.pass.part.frames → CameBy ss c → ReadBy rs l → IsCaptureHistory ss rs
capture_history ss rs c l begins came read =
    let n : ℕ = length l.pass.part.frames in
    let whole : all_read rs ++ drop n (kept ss) ≡ kept ss =
    ap (λ (x : List ℕ). x ++ drop n (kept ss)) (sym read.frames_are ∙ begins ∙ ap (λ (x : List ℕ). take n x) came.kept_is) ∙ take-append-drop n (kept ss) in
    let a : length (all_read rs) + length (drop n (kept ss)) ≡ length (kept ss) = sym (length-append (all_read rs) (drop n (kept ss))) ∙ ap length whole in
    let b = put_or_lost ss in
    record { queued = drop n (kept ss); kept_is = whole; counts = omega arith }
