-- A turn is told by no lines but its own.
use Rattle.std.proofs.Common.{◌≡◌, inl, inr, ℕ, ◌+◌, ◌*◌, ◌/◌, ◌%◌, ◌<◌, List, [], ◌∷◌, ◌++◌, length, map, Bool, true, false, cond, refl, ap, ◌∙◌, sym, arith, All, append_assoc}
use Rattle.af_journal.proofs.Common.{All-head, All-tail, Frame, IsFrame, IsOpenTurn, IsTake, IsTurn, Push, Seen, TakeSeen, Turn, cast_signed, cast_unsigned, count_seen, ended_turn, few, flat_map, length-map, packed_word, to_z-of_z, w16}
use Rattle.af_base.specs.declared.seen.Seen.TheVariants as seen
use Rattle.af_base.specs.declared.state.Push.TheVariants as pushing
use Rattle.af_journal.specs.declared.line.Line.TheVariants as line
use Rattle.af_journal.specs.Lines.{Written, numbers}
use Rattle.af_journal.specs.Texts.{each_from, take_lines, track_lines, turn_lines, words_after}
use Rattle.af_journal.proofs.OneText.{IsTrackTold, each-one, first-same, others-same, tracks-numbered, words-one}

-- ## Frames

halves-same : (a b c d : ℕ) → a < 65536 → b < 65536 → c < 65536 → d < 65536
    → a % 256 + 256 * (a / 256 % 256 + 256 * (b % 256 + 256 * (b / 256 % 256 + 256 * 0))) ≡ c % 256 + 256 * (c / 256 % 256 + 256 * (d % 256 + 256 * (d / 256 % 256 + 256 * 0))) → (a ≡ c) × (b ≡ d)
halves-same a b c d ha hb hc hd e = (omega arith, omega arith)

same-frame : (f g : Frame) → IsFrame f → IsFrame g → packed_word f ≡ packed_word g → f ≡ g
same-frame f g p q e =
    let h = halves-same (cast_unsigned w16 f.left) (cast_unsigned w16 f.right) (cast_unsigned w16 g.left) (cast_unsigned w16 g.right) (few f.left p.left) (few f.right p.right) (few g.left q.left) (few g.right q.right) e in
    let left : f.left ≡ g.left = sym (to_z-of_z w16 f.left p.left) ∙ ap (cast_signed w16) h.0 ∙ to_z-of_z w16 g.left q.left in
    let right : f.right ≡ g.right = sym (to_z-of_z w16 f.right p.right) ∙ ap (cast_signed w16) h.1 ∙ to_z-of_z w16 g.right q.right in
    λ k. record { left = left k; right = right k }

word_of : List ℕ → ℕ
word_of [] = 0
word_of (w ∷ ws) = w

words_past : List ℕ → List ℕ
words_past [] = []
words_past (w ∷ ws) = ws

pub same-frames : (fs gs : List Frame) → All IsFrame fs → All IsFrame gs → map packed_word fs ≡ map packed_word gs → fs ≡ gs
unfolding word_of words_past
same-frames [] [] p q e = refl
same-frames [] (g ∷ gs) p q e = absurd (let h = ap length e in omega arith)
same-frames (f ∷ fs) [] p q e = absurd (let h = ap length e in omega arith)
same-frames (f ∷ fs) (g ∷ gs) p q e =
    let own = same-frame f g (All-head IsFrame f fs p) (All-head IsFrame g gs q) (ap word_of e) in
    let more = same-frames fs gs (All-tail IsFrame f fs p) (All-tail IsFrame g gs q) (ap words_past e) in
    λ k. own k ∷ more k

-- ## Takes

take_in : Written → TakeSeen
take_in (numbers (line.Take track gains flush rear answer)) = record { track = track; slot = record { gains = gains; flush = flush; rear = rear; seen = answer; first = 0 }; frames = [] }
take_in _ = record { track = 0; slot = record { gains = 0; flush = 0; rear = 0; seen = seen.Absent; first = 0 }; frames = [] }

same-take : (track gains flush rear : ℕ) (answer : Seen) (track' gains' flush' rear' : ℕ) (answer' : Seen) → numbers (line.Take track gains flush rear answer) ≡ numbers (line.Take track' gains' flush' rear' answer')
    → (track ≡ track') × (gains ≡ gains') × (flush ≡ flush') × (rear ≡ rear') × (answer ≡ answer')
unfolding take_in
same-take track gains flush rear answer track' gains' flush' rear' answer' e =
    let p = ap take_in e in (
      ap (λ (t : TakeSeen). t.track) p,
      ap (λ (t : TakeSeen). t.slot.gains) p,
      ap (λ (t : TakeSeen). t.slot.flush) p,
      ap (λ (t : TakeSeen). t.slot.rear) p,
      ap (λ (t : TakeSeen). t.slot.seen) p,
    )

take-one : (tracks : ℕ) (t u : TakeSeen) (r s : List Written) → IsTake tracks t → IsTake tracks u → take_lines t ++ r ≡ take_lines u ++ s → (t ≡ u) × (r ≡ s)
take-one tracks t u r s p q e =
    let ts = words_after (map packed_word t.frames) ++ r in let us = words_after (map packed_word u.frames) ++ s in
    let own = same-take t.track t.slot.gains t.slot.flush t.slot.rear t.slot.seen u.track u.slot.gains u.slot.flush u.slot.rear u.slot.seen (first-same _ _ ts us e) in
    let long : length (map packed_word t.frames) ≡ length (map packed_word u.frames) = length-map t.frames packed_word ∙ p.frames ∙ ap count_seen own.4 ∙ sym q.frames ∙ sym (length-map u.frames packed_word) in
    let more = words-one (map packed_word t.frames) (map packed_word u.frames) r s long (others-same _ _ ts us e) in
    let frames = same-frames t.frames u.frames p.samples q.samples more.0 in
    let first : t.slot.first ≡ u.slot.first = p.first ∙ sym q.first in
    ((λ k. record { track = own.0 k; slot = record { gains = own.1 k; flush = own.2 k; rear = own.3 k; seen = own.4 k; first = first k }; frames = frames k }), more.1)

-- no take
abbrev pub NoTake : List Written → Type 0
NoTake r = (track gains flush rear : ℕ) (answer : Seen) (rest : List Written) → r ≡ numbers (line.Take track gains flush rear answer) ∷ rest → ⊥

takes-one : (tracks : ℕ) (ts us : List TakeSeen) (r s : List Written) → All (IsTake tracks) ts → All (IsTake tracks) us → NoTake r → NoTake s → flat_map take_lines ts ++ r ≡ flat_map take_lines us ++ s → (ts ≡ us) × (r ≡ s)
takes-one tracks [] [] r s p q h k e = (refl, e)
takes-one tracks [] (u ∷ us) r s p q h k e = absurd (h u.track u.slot.gains u.slot.flush u.slot.rear u.slot.seen _ e)
takes-one tracks (t ∷ ts) [] r s p q h k e = absurd (k t.track t.slot.gains t.slot.flush t.slot.rear t.slot.seen _ (sym e))
takes-one tracks (t ∷ ts) (u ∷ us) r s p q h k e =
    let own = take-one tracks t u (flat_map take_lines ts ++ r) (flat_map take_lines us ++ s) (All-head (IsTake tracks) t ts p) (All-head (IsTake tracks) u us q)
    (sym (append_assoc (take_lines t) (flat_map take_lines ts) r) ∙ e ∙ append_assoc (take_lines u) (flat_map take_lines us) s) in
    let more = takes-one tracks ts us r s (All-tail (IsTake tracks) t ts p) (All-tail (IsTake tracks) u us q) h k own.1 in
    ((λ k. own.0 k ∷ more.0 k), more.1)

-- ## A turn

push_in : Written → Push
push_in (numbers (line.Pushed push)) = push
push_in _ = pushing.Clean

same-push : (a b : Push) → numbers (line.Pushed a) ≡ numbers (line.Pushed b) → a ≡ b
unfolding push_in
same-push a b e = ap push_in e

turn_in : Written → ℕ × Bool × ℕ
turn_in (numbers (line.Turn room ack cycle)) = (room, ack, cycle)
turn_in _ = (0, false, 0)

same-turn : (room cycle room' cycle' : ℕ) (ack ack' : Bool) → numbers (line.Turn room ack cycle) ≡ numbers (line.Turn room' ack' cycle') → (room ≡ room') × (ack ≡ ack') × (cycle ≡ cycle')
unfolding turn_in
same-turn room cycle room' cycle' ack ack' e = let p = ap turn_in e in (ap (λ (x : ℕ × Bool × ℕ). x.0) p, ap (λ (x : ℕ × Bool × ℕ). x.1) p, ap (λ (x : ℕ × Bool × ℕ). x.2) p)

pub open-lines : (e : Turn) → e.ended ≡ false → (r : List Written)
    → turn_lines e ++ r ≡ numbers (line.Turn e.room e.ack e.cycle) ∷ (each_from track_lines 0 e.tracks ++ numbers (line.Pushed e.push) ∷ (flat_map take_lines e.mixes ++ r))
open-lines e is r =
    ap (λ b. cond b (numbers line.Ended ∷ []) (numbers (line.Turn e.room e.ack e.cycle) ∷ each_from track_lines 0 e.tracks ++ numbers (line.Pushed e.push) ∷ flat_map take_lines e.mixes) ++ r) is
    ∙ ap (λ l. numbers (line.Turn e.room e.ack e.cycle) ∷ l) (append_assoc (each_from track_lines 0 e.tracks) (numbers (line.Pushed e.push) ∷ flat_map take_lines e.mixes) r)

open-one : (tracks : ℕ) (e f : Turn) (r s : List Written) → IsOpenTurn tracks e → IsOpenTurn tracks f → NoTake r → NoTake s → turn_lines e ++ r ≡ turn_lines f ++ s → (e ≡ f) × (r ≡ s)
open-one tracks e f r s p q h k same =
    let pe = numbers (line.Pushed e.push) ∷ (flat_map take_lines e.mixes ++ r) in let pf = numbers (line.Pushed f.push) ∷ (flat_map take_lines f.mixes ++ s) in
    let te = each_from track_lines 0 e.tracks ++ pe in let tf = each_from track_lines 0 f.tracks ++ pf in
    let all = sym (open-lines e p.open_is r) ∙ same ∙ open-lines f q.open_is s in
    let first = same-turn e.room e.cycle f.room f.cycle e.ack f.ack (first-same _ _ te tf all) in
    let tracks_are = each-one IsTrackTold track_lines tracks-numbered 0 e.tracks f.tracks pe pf (p.each ∙ sym q.each) p.looks q.looks tt tt (others-same _ _ te tf all) in
    let push = same-push e.push f.push (first-same _ _ (flat_map take_lines e.mixes ++ r) (flat_map take_lines f.mixes ++ s) tracks_are.1) in
    let takes = takes-one tracks e.mixes f.mixes r s p.takes q.takes h k (others-same _ _ (flat_map take_lines e.mixes ++ r) (flat_map take_lines f.mixes ++ s) tracks_are.1) in
    let ended : e.ended ≡ f.ended = p.open_is ∙ sym q.open_is in
    ((λ k. record { ended = ended k; room = first.0 k; ack = first.1 k; cycle = first.2 k; tracks = tracks_are.0 k; push = push k; mixes = takes.0 k }), takes.1)

-- a turn's first line
is_turn : Written → Bool
is_turn (numbers (line.Turn room ack cycle)) = true
is_turn _ = false

pub unlike : (e f : Turn) (r s : List Written) → e ≡ ended_turn → f.ended ≡ false → turn_lines e ++ r ≡ turn_lines f ++ s → ⊥
unfolding is_turn
unlike e f r s p q same =
    let all = ap (λ (e : Turn). turn_lines e ++ r) (sym p) ∙ same ∙ open-lines f q s in
    let bad = ap is_turn (first-same _ _ r (each_from track_lines 0 f.tracks ++ numbers (line.Pushed f.push) ∷ (flat_map take_lines f.mixes ++ s)) all) in cc

pub turn-one : (tracks : ℕ) (e f : Turn) (r s : List Written) → IsTurn tracks e → IsTurn tracks f → NoTake r → NoTake s → turn_lines e ++ r ≡ turn_lines f ++ s → (e ≡ f) × (r ≡ s)
turn-one tracks e f r s (inl p) (inl q) h k same = (
  p ∙ sym q,
  others-same _ _ r s (ap (λ (e : Turn). turn_lines e ++ r) (sym p) ∙ same ∙ ap (λ (e : Turn). turn_lines e ++ s) q),
)
turn-one tracks e f r s (inl p) (inr q) h k same = absurd (unlike e f r s p q.open_is same)
turn-one tracks e f r s (inr p) (inl q) h k same = absurd (unlike f e s r q p.open_is (sym same))
turn-one tracks e f r s (inr p) (inr q) h k same = open-one tracks e f r s p q h k same
