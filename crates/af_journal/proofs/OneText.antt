-- Two journals of as many tracks have two texts.
use Rattle.std.proofs.Common.{◌≡◌, ◌⊎◌, inl, inr, ℕ, zero, suc, ◌+◌, ◌≤◌, ◌==◌, List, [], ◌∷◌, ◌++◌, length, Option, Some, None, Bool, true, false, cond, refl, ap, ◌∙◌, sym, subst, arith, All, append_assoc}
use Rattle.af_journal.proofs.Common.{All-head, All-tail, AllByRecursion, ClientCall, CommandLook, IsCommandLook, Seen, TrackSeen, count_seen, flat_map, same_Some}
use Rattle.af_base.specs.declared.seen.Seen.TheVariants as seen
use Rattle.af_journal.specs.declared.line.Line.{Line}
use Rattle.af_journal.specs.declared.line.Line.TheVariants as line
use Rattle.af_journal.specs.Lines.{Written, numbers, words, line_bytes}
use Rattle.af_journal.specs.LineReading.{written_at}
use Rattle.af_journal.specs.Ranges.{IsWritten}
use Rattle.af_journal.specs.Readings.{cut}
use Rattle.af_journal.specs.Texts.{call_lines, client_lines, command_words, disabled_lines, each_from, look_lines, status_lines, text_of_lines, track_lines, words_after}
use Rattle.af_journal.proofs.Hex.{written-again}
use Rattle.af_journal.proofs.Lacking.{written_lacks}
use Rattle.af_journal.proofs.Parts.{cut-again}

-- ## Lines

-- the first of two lists that are the same, and the others
head_or : Written → List Written → Written
head_or d [] = d
head_or d (w ∷ ws) = w

others : List Written → List Written
others [] = []
others (w ∷ ws) = ws

pub first-same : (w v : Written) (ws vs : List Written) → w ∷ ws ≡ v ∷ vs → w ≡ v
unfolding head_or
first-same w v ws vs e = ap (head_or w) e

pub others-same : (w v : Written) (ws vs : List Written) → w ∷ ws ≡ v ∷ vs → ws ≡ vs
unfolding others
others-same w v ws vs e = ap others e

-- the first line of a text
pub cut-line : (w : Written) (ws : List Written) → IsWritten w → cut (text_of_lines (w ∷ ws)) ≡ Some (line_bytes w, text_of_lines ws)
cut-line w ws fit = ap cut (append_assoc (line_bytes w) (10 ∷ []) (text_of_lines ws)) ∙ cut-again (line_bytes w) (text_of_lines ws) (written_lacks w fit)

-- lines of one text are the same
pub same-lines : (ws vs : List Written) → AllByRecursion IsWritten ws → AllByRecursion IsWritten vs → text_of_lines ws ≡ text_of_lines vs → ws ≡ vs
same-lines [] [] f g e = refl
same-lines [] (v ∷ vs) f g e = absurd (let p = ap cut e ∙ cut-line v vs g.0 in cc)
same-lines (w ∷ ws) [] f g e = absurd (let p = ap cut (sym e) ∙ cut-line w ws f.0 in cc)
same-lines (w ∷ ws) (v ∷ vs) f g e =
    let p : ◌≡◌ {A = List ℕ × List ℕ} (line_bytes w, text_of_lines ws) (line_bytes v, text_of_lines vs) = same_Some _ _ (sym (cut-line w ws f.0) ∙ ap cut e ∙ cut-line v vs g.0) in
    let own : w ≡ v = same_Some _ _ (sym (written-again w f.0) ∙ ap (λ (r : List ℕ × List ℕ). written_at r.0) p ∙ written-again v g.0) in
    let more : ws ≡ vs = same-lines ws vs f.1 g.1 (ap (λ (r : List ℕ × List ℕ). r.1) p) in
    λ k. own k ∷ more k

-- ## What may follow

-- no line of a client, a track or a slot before n, no call and no words
abbrev pub FromOn : ℕ → List Written → Type 0
FromOn n [] = Unit {0}
FromOn n (words ws ∷ rest) = ⊥
FromOn n (numbers line.Round ∷ rest) = Unit {0}
FromOn n (numbers (line.Client track) ∷ rest) = n ≤ track
FromOn n (numbers (line.Call answer) ∷ rest) = ⊥
FromOn n (numbers (line.Turn room ack cycle) ∷ rest) = Unit {0}
FromOn n (numbers line.Ended ∷ rest) = Unit {0}
FromOn n (numbers (line.Look track flush rear answer) ∷ rest) = n ≤ track
FromOn n (numbers (line.Disabled track) ∷ rest) = n ≤ track
FromOn n (numbers (line.Status track word) ∷ rest) = n ≤ track
FromOn n (numbers (line.Pushed push) ∷ rest) = Unit {0}
FromOn n (numbers (line.Take track gains flush rear answer) ∷ rest) = Unit {0}
FromOn n (numbers line.Fast ∷ rest) = Unit {0}
FromOn n (numbers (line.Entry state kind) ∷ rest) = Unit {0}
FromOn n (numbers (line.Slot i scale mono gains flush rear answer) ∷ rest) = n ≤ i

pub from-less : (m n : ℕ) (r : List Written) → m ≤ n → FromOn n r → FromOn m r
from-less m n [] le h = tt
from-less m n (words ws ∷ rest) le h = h
from-less m n (numbers line.Round ∷ rest) le h = tt
from-less m n (numbers (line.Client track) ∷ rest) le h = omega arith
from-less m n (numbers (line.Call answer) ∷ rest) le h = h
from-less m n (numbers (line.Turn room ack cycle) ∷ rest) le h = tt
from-less m n (numbers line.Ended ∷ rest) le h = tt
from-less m n (numbers (line.Look track flush rear answer) ∷ rest) le h = omega arith
from-less m n (numbers (line.Disabled track) ∷ rest) le h = omega arith
from-less m n (numbers (line.Status track word) ∷ rest) le h = omega arith
from-less m n (numbers (line.Pushed push) ∷ rest) le h = tt
from-less m n (numbers (line.Take track gains flush rear answer) ∷ rest) le h = tt
from-less m n (numbers line.Fast ∷ rest) le h = tt
from-less m n (numbers (line.Entry state kind) ∷ rest) le h = tt
from-less m n (numbers (line.Slot i scale mono gains flush rear answer) ∷ rest) le h = omega arith

-- items that are told by numbered lines, or by none
pub record IsNumbered {X : Type 0} (P : X → Type 0) (f : ℕ → X → List Written) : Type 1 where
  pub from : (n : ℕ) (x : X) (r : List Written) → FromOn (n + 1) r → FromOn n (f n x ++ r)
  pub one : (n : ℕ) (x y : X) (r s : List Written) → P x → P y → FromOn (n + 1) r → FromOn (n + 1) s → f n x ++ r ≡ f n y ++ s → (x ≡ y) × (r ≡ s)

pub each-from : {X : Type 0} (P : X → Type 0) (f : ℕ → X → List Written) → IsNumbered P f → (n : ℕ) (xs : List X) (r : List Written) → FromOn (n + length xs) r → FromOn n (each_from f n xs ++ r)
each-from P f is n [] r h = subst (λ k. FromOn k r) (let e : n + 0 ≡ n = omega arith in e) h
each-from P f is n (x ∷ xs) r h =
    subst (FromOn n) (sym (append_assoc (f n x) (each_from f (n + 1) xs) r))
    (is.from n x (each_from f (n + 1) xs ++ r) (each-from P f is (n + 1) xs r (subst (λ k. FromOn k r) (let e : n + suc (length xs) ≡ n + 1 + length xs = omega arith in e) h)))

-- as many items of the same lines are the same
pub each-one : {X : Type 0} (P : X → Type 0) (f : ℕ → X → List Written) → IsNumbered P f → (n : ℕ) (xs ys : List X) (r s : List Written) → length xs ≡ length ys → All P xs → All P ys → FromOn (n + length xs) r → FromOn (n + length xs) s
    → each_from f n xs ++ r ≡ each_from f n ys ++ s → (xs ≡ ys) × (r ≡ s)
each-one P f is n [] [] r s l p q h k e = (refl, e)
each-one P f is n [] (y ∷ ys) r s l p q h k e = absurd (omega arith)
each-one P f is n (x ∷ xs) [] r s l p q h k e = absurd (omega arith)
each-one P f is n (x ∷ xs) (y ∷ ys) r s l p q h k e =
    let same : length xs ≡ length ys = omega arith in
    let next : n + suc (length xs) ≡ n + 1 + length xs = omega arith in
    let r_from = subst (λ k. FromOn k r) next h in
    let s_from = subst (λ k. FromOn k s) next k in
    let s_too = subst (λ (m : ℕ). FromOn (n + 1 + m) s) same s_from in
    let own = is.one n x y (each_from f (n + 1) xs ++ r) (each_from f (n + 1) ys ++ s) (All-head P x xs p) (All-head P y ys q) (each-from P f is (n + 1) xs r r_from) (each-from P f is (n + 1) ys s s_too)
    (sym (append_assoc (f n x) (each_from f (n + 1) xs) r) ∙ e ∙ append_assoc (f n y) (each_from f (n + 1) ys) s) in
    let more = each-one P f is (n + 1) xs ys r s same (All-tail P x xs p) (All-tail P y ys q) r_from s_from own.1 in
    ((λ k. own.0 k ∷ more.0 k), more.1)

-- ## Clients

-- no call
abbrev NoCall : List Written → Type 0
NoCall r = (call : ClientCall) (rest : List Written) → r ≡ numbers (line.Call call) ∷ rest → ⊥

no_call : (n : ℕ) (r : List Written) → FromOn n r → NoCall r
no_call n r h call rest e = subst (FromOn n) e h

call_in : Line → ClientCall → ClientCall
call_in (line.Call answer) d = answer
call_in _ d = d

line_in : Written → Line
line_in (numbers l) = l
line_in (words ws) = line.Round

same-call : (a b : ClientCall) → numbers (line.Call a) ≡ numbers (line.Call b) → a ≡ b
unfolding call_in line_in
same-call a b e = ap (λ w. call_in (line_in w) a) e

calls-one : (cs ds : List ClientCall) (r s : List Written) → NoCall r → NoCall s → call_lines cs ++ r ≡ call_lines ds ++ s → (cs ≡ ds) × (r ≡ s)
calls-one [] [] r s h k e = (refl, e)
calls-one [] (d ∷ ds) r s h k e = absurd (h d (call_lines ds ++ s) e)
calls-one (c ∷ cs) [] r s h k e = absurd (k c (call_lines cs ++ r) (sym e))
calls-one (c ∷ cs) (d ∷ ds) r s h k e =
    let own = same-call c d (first-same _ _ (call_lines cs ++ r) (call_lines ds ++ s) e) in
    let more = calls-one cs ds r s h k (others-same _ _ (call_lines cs ++ r) (call_lines ds ++ s) e) in
    ((λ k. own k ∷ more.0 k), more.1)

client-from : (n : ℕ) (calls : List ClientCall) (r : List Written) → FromOn (n + 1) r → FromOn n (client_lines n calls ++ r)
client-from n [] r h = from-less n (n + 1) r (omega arith) h
client-from n (c ∷ cs) r h = omega arith

client-one : (n : ℕ) (cs ds : List ClientCall) (r s : List Written) → FromOn (n + 1) r → FromOn (n + 1) s → client_lines n cs ++ r ≡ client_lines n ds ++ s → (cs ≡ ds) × (r ≡ s)
client-one n [] [] r s h k e = (refl, e)
client-one n [] (d ∷ ds) r s h k e = absurd (let p : n + 1 ≤ n = subst (FromOn (n + 1)) e h in omega arith)
client-one n (c ∷ cs) [] r s h k e = absurd (let p : n + 1 ≤ n = subst (FromOn (n + 1)) (sym e) k in omega arith)
client-one n (c ∷ cs) (d ∷ ds) r s h k e = calls-one (c ∷ cs) (d ∷ ds) r s (no_call (n + 1) r h) (no_call (n + 1) s k) (others-same _ _ (call_lines (c ∷ cs) ++ r) (call_lines (d ∷ ds) ++ s) e)

pub clients-numbered : IsNumbered (λ (calls : List ClientCall). Unit {0}) client_lines
clients-numbered = record { from = client-from; one = λ n x y r s p q h k e. client-one n x y r s h k e }

-- ## Words

words_in : Written → List ℕ
words_in (numbers l) = []
words_in (words ws) = ws

pub same-words : (ws vs : List ℕ) → words ws ≡ words vs → ws ≡ vs
unfolding words_in
same-words ws vs e = ap words_in e

-- as many words of the same lines are the same
pub words-one : (ws vs : List ℕ) (r s : List Written) → length ws ≡ length vs → words_after ws ++ r ≡ words_after vs ++ s → (ws ≡ vs) × (r ≡ s)
words-one [] [] r s l e = (refl, e)
words-one [] (v ∷ vs) r s l e = absurd (omega arith)
words-one (w ∷ ws) [] r s l e = absurd (omega arith)
words-one (w ∷ ws) (v ∷ vs) r s l e = (same-words (w ∷ ws) (v ∷ vs) (first-same _ _ r s e), others-same _ _ r s e)

-- ## Tracks

look_in : Line → CommandLook
look_in (line.Look track flush rear answer) = record { flush = flush; rear = rear; seen = answer; code = 0; argument = 0 }
look_in _ = record { flush = 0; rear = 0; seen = seen.Empty; code = 0; argument = 0 }

same-look : (n flush rear flush' rear' : ℕ) (answer answer' : Seen) → numbers (line.Look n flush rear answer) ≡ numbers (line.Look n flush' rear' answer') → (flush ≡ flush') × (rear ≡ rear') × (answer ≡ answer')
unfolding look_in line_in
same-look n flush rear flush' rear' answer answer' e =
    let p = ap (λ w. look_in (line_in w)) e in (ap (λ (l : CommandLook). l.flush) p, ap (λ (l : CommandLook). l.rear) p, ap (λ (l : CommandLook). l.seen) p)

command-long : (b : Bool) (x y : ℕ) → length (cond b (x ∷ y ∷ []) []) ≡ cond b 2 0
command-long true x y = refl
command-long false x y = refl

number_at : ℕ → List ℕ → ℕ
number_at i [] = 0
number_at zero (x ∷ xs) = x
number_at (suc i) (x ∷ xs) = number_at i xs

taken-codes : (l m : CommandLook) → l.seen ≡ seen.Frames 2 → l.seen ≡ m.seen → command_words l ≡ command_words m → (l.code ≡ m.code) × (l.argument ≡ m.argument)
unfolding number_at
taken-codes l m two same e =
    let left : command_words l ≡ l.code ∷ l.argument ∷ [] = ap (λ s. cond (count_seen s == 2) (l.code ∷ l.argument ∷ []) []) two in
    let right : command_words m ≡ m.code ∷ m.argument ∷ [] = ap (λ s. cond (count_seen s == 2) (m.code ∷ m.argument ∷ []) []) (sym same ∙ two) in
    let both : l.code ∷ l.argument ∷ [] ≡ m.code ∷ m.argument ∷ [] = sym left ∙ e ∙ right in
    (ap (number_at 0) both, ap (number_at 1) both)

same-codes : (l m : CommandLook) → (l.seen ≡ seen.Frames 2) ⊎ ((l.code ≡ 0) × (l.argument ≡ 0)) → (m.seen ≡ seen.Frames 2) ⊎ ((m.code ≡ 0) × (m.argument ≡ 0)) → l.seen ≡ m.seen → command_words l ≡ command_words m
    → (l.code ≡ m.code) × (l.argument ≡ m.argument)
same-codes l m (inl two) is same e = taken-codes l m two same e
same-codes l m (inr left) (inl two) same e = taken-codes l m (same ∙ two) same e
same-codes l m (inr left) (inr right) same e = (left.0 ∙ sym right.0, left.1 ∙ sym right.1)

look-one : (n : ℕ) (l m : CommandLook) (r s : List Written) → IsCommandLook l → IsCommandLook m → look_lines n l ++ r ≡ look_lines n m ++ s → (l ≡ m) × (r ≡ s)
look-one n l m r s p q e =
    let own = same-look n l.flush l.rear m.flush m.rear l.seen m.seen (first-same _ _ (words_after (command_words l) ++ r) (words_after (command_words m) ++ s) e) in
    let long : length (command_words l) ≡ length (command_words m) =
    command-long (count_seen l.seen == 2) l.code l.argument ∙ ap (λ x. cond (count_seen x == 2) 2 0) own.2 ∙ sym (command-long (count_seen m.seen == 2) m.code m.argument) in
    let more = words-one (command_words l) (command_words m) r s long (others-same _ _ (words_after (command_words l) ++ r) (words_after (command_words m) ++ s) e) in
    let codes = same-codes l m p.1 q.1 own.2 more.0 in
    ((λ k. record { flush = own.0 k; rear = own.1 k; seen = own.2 k; code = codes.0 k; argument = codes.1 k }), more.1)

-- no look at track n
abbrev NoLook : ℕ → List Written → Type 0
NoLook n r = (flush rear : ℕ) (answer : Seen) (rest : List Written) → r ≡ numbers (line.Look n flush rear answer) ∷ rest → ⊥

looks-one : (n : ℕ) (ls ms : List CommandLook) (r s : List Written) → All IsCommandLook ls → All IsCommandLook ms → NoLook n r → NoLook n s → flat_map (look_lines n) ls ++ r ≡ flat_map (look_lines n) ms ++ s → (ls ≡ ms) × (r ≡ s)
looks-one n [] [] r s p q h k e = (refl, e)
looks-one n [] (m ∷ ms) r s p q h k e = absurd (h m.flush m.rear m.seen _ e)
looks-one n (l ∷ ls) [] r s p q h k e = absurd (k l.flush l.rear l.seen _ (sym e))
looks-one n (l ∷ ls) (m ∷ ms) r s p q h k e =
    let own = look-one n l m (flat_map (look_lines n) ls ++ r) (flat_map (look_lines n) ms ++ s) (All-head IsCommandLook l ls p) (All-head IsCommandLook m ms q)
    (sym (append_assoc (look_lines n l) (flat_map (look_lines n) ls) r) ∙ e ∙ append_assoc (look_lines n m) (flat_map (look_lines n) ms) s) in
    let more = looks-one n ls ms r s (All-tail IsCommandLook l ls p) (All-tail IsCommandLook m ms q) h k own.1 in
    ((λ k. own.0 k ∷ more.0 k), more.1)

status_in : Line → ℕ
status_in (line.Status track word) = word
status_in _ = 0

same-status : (n word other : ℕ) → numbers (line.Status n word) ≡ numbers (line.Status n other) → word ≡ other
unfolding status_in line_in
same-status n word other e = ap (λ w. status_in (line_in w)) e

status-one : (n : ℕ) (a b : Option ℕ) (r s : List Written) → FromOn (n + 1) r → FromOn (n + 1) s → status_lines n a ++ r ≡ status_lines n b ++ s → (a ≡ b) × (r ≡ s)
status-one n None None r s h k e = (refl, e)
status-one n None (Some w) r s h k e = absurd (let p : n + 1 ≤ n = subst (FromOn (n + 1)) e h in omega arith)
status-one n (Some v) None r s h k e = absurd (let p : n + 1 ≤ n = subst (FromOn (n + 1)) (sym e) k in omega arith)
status-one n (Some v) (Some w) r s h k e = (ap Some (same-status n v w (first-same _ _ r s e)), others-same _ _ r s e)

-- no DISABLED of track n
abbrev NoDisabled : ℕ → List Written → Type 0
NoDisabled n r = (rest : List Written) → r ≡ numbers (line.Disabled n) ∷ rest → ⊥

no-disabled : (n : ℕ) (a : Option ℕ) (r : List Written) → FromOn (n + 1) r → NoDisabled n (status_lines n a ++ r)
no-disabled n None r h rest e = let p : n + 1 ≤ n = subst (FromOn (n + 1)) e h in omega arith
no-disabled n (Some v) r h rest e = kinds-differ (first-same _ _ r rest e) where
  kinds-differ : numbers (line.Status n v) ≡ numbers (line.Disabled n) → ⊥
  kinds-differ e = cc

disabled-one : (n : ℕ) (a b : Bool) (r s : List Written) → NoDisabled n r → NoDisabled n s → disabled_lines n a ++ r ≡ disabled_lines n b ++ s → (a ≡ b) × (r ≡ s)
disabled-one n false false r s h k e = (refl, e)
disabled-one n false true r s h k e = absurd (h s e)
disabled-one n true false r s h k e = absurd (k r (sym e))
disabled-one n true true r s h k e = (refl, others-same _ _ r s e)

no-look : (n : ℕ) (d : Bool) (a : Option ℕ) (r : List Written) → FromOn (n + 1) r → NoLook n (disabled_lines n d ++ (status_lines n a ++ r))
no-look n false None r h flush rear answer rest e = let p : n + 1 ≤ n = subst (FromOn (n + 1)) e h in omega arith
no-look n false (Some v) r h flush rear answer rest e = kinds-differ (first-same _ _ r rest e) where
  kinds-differ : numbers (line.Status n v) ≡ numbers (line.Look n flush rear answer) → ⊥
  kinds-differ e = cc
no-look n true a r h flush rear answer rest e = kinds-differ (first-same _ _ (status_lines n a ++ r) rest e) where
  kinds-differ : numbers (line.Disabled n) ≡ numbers (line.Look n flush rear answer) → ⊥
  kinds-differ e = cc

abbrev pub IsTrackTold : TrackSeen → Type 0
IsTrackTold t = All IsCommandLook t.looks

track-front : (n : ℕ) (looks : List CommandLook) (d : Bool) (a : Option ℕ) (r : List Written) → FromOn (n + 1) r → FromOn n ((flat_map (look_lines n) looks ++ disabled_lines n d ++ status_lines n a) ++ r)
track-front n [] false None r h = from-less n (n + 1) r (omega arith) h
track-front n [] false (Some v) r h = omega arith
track-front n [] true a r h = omega arith
track-front n (l ∷ ls) d a r h = omega arith

track-apart : (n : ℕ) (t : TrackSeen) (r : List Written) → track_lines n t ++ r ≡ flat_map (look_lines n) t.looks ++ (disabled_lines n t.disabled ++ (status_lines n t.status ++ r))
track-apart n t r =
    let a = flat_map (look_lines n) t.looks in let b = disabled_lines n t.disabled in let c = status_lines n t.status in
    append_assoc (a ++ b) c r ∙ append_assoc a b (c ++ r)

track-one : (n : ℕ) (t u : TrackSeen) (r s : List Written) → IsTrackTold t → IsTrackTold u → FromOn (n + 1) r → FromOn (n + 1) s → track_lines n t ++ r ≡ track_lines n u ++ s → (t ≡ u) × (r ≡ s)
track-one n t u r s p q h k e =
    let looks = looks-one n t.looks u.looks (disabled_lines n t.disabled ++ (status_lines n t.status ++ r)) (disabled_lines n u.disabled ++ (status_lines n u.status ++ s)) p q
    (no-look n t.disabled t.status r h) (no-look n u.disabled u.status s k) (sym (track-apart n t r) ∙ e ∙ track-apart n u s) in
    let disabled = disabled-one n t.disabled u.disabled (status_lines n t.status ++ r) (status_lines n u.status ++ s) (no-disabled n t.status r h) (no-disabled n u.status s k) looks.1 in
    let status = status-one n t.status u.status r s h k disabled.1 in
    ((λ k. record { looks = looks.0 k; status = status.0 k; disabled = disabled.0 k }), status.1)

pub tracks-numbered : IsNumbered IsTrackTold track_lines
tracks-numbered = record { from = λ n t r h. track-front n t.looks t.disabled t.status r h; one = track-one }
