-- One call more of a player: what all of them play.
use Rattle.std.proofs.Common.{◌≡◌, ℕ, ◌+◌, Bool, true, false, not, ◌&&◌, ◌==◌, cond, if◌then◌else◌, List, [], ◌∷◌, ◌++◌, length, refl, sym, ap, subst, ◌∙◌, arith, append_assoc, append-nil}
use Rattle.std.proofs.lemmas.Bool.Decides.{nat_tests}
use Rattle.af_base.specs.declared.frame.Frame.{Frame}
use Rattle.af_model.specs.declared.newest.ReaderEvent.{ReaderEvent}
use Rattle.af_model.specs.declared.newest.ReaderEvent.TheVariants.{Load}
use Rattle.af_model.specs.declared.newest.ReaderEvent.TheVariants as reads
use Rattle.af_static.specs.declared.setting.Setting.{Setting}
use Rattle.af_static.specs.declared.head.Head.{Head}
use Rattle.af_static.specs.Ends.{Plays}
use Rattle.af_static.specs.Loops.{adopted, head_after, head_heard, is_valid, output, taken}
use Rattle.af_static.specs.Calls.{Call, CallsPlay, HasPlayed, Standing, standing_after, after_calls, filled_of, loaded, loads_in, loads_of, outputs_of, standing_of, frames_taken_by, unplayed, used_in, with_places}

-- ## Lists of calls

outputs_on : (frames : List Frame) (s : Standing) (calls : List Call) (call : Call) → outputs_of frames s (calls ++ call ∷ []) ≡ outputs_of frames s calls ++ output call.gains (frames_taken_by frames (after_calls (length frames) s calls) call) call.places
outputs_on frames s [] call = append-nil (output call.gains (frames_taken_by frames s call) call.places)
outputs_on frames s (c ∷ calls) call =
    let one : List Frame = output c.gains (frames_taken_by frames s c) c.places in
    let next : Standing = standing_after (length frames) s c in
    ap (λ (fs : List Frame). one ++ fs) (outputs_on frames next calls call)
    ∙ sym (append_assoc one (outputs_of frames next calls) (output call.gains (frames_taken_by frames (after_calls (length frames) next calls) call) call.places))

filled_on : (frames : List Frame) (s : Standing) (calls : List Call) (call : Call) → filled_of frames s (calls ++ call ∷ []) ≡ filled_of frames s calls + length (frames_taken_by frames (after_calls (length frames) s calls) call)
filled_on frames s [] call = one_alone (length (frames_taken_by frames s call))
  where
    one_alone : (a : ℕ) → a + 0 ≡ 0 + a
    one_alone a = omega arith
filled_on frames s (c ∷ calls) call =
    let one : ℕ = length (frames_taken_by frames s c) in
    let next : Standing = standing_after (length frames) s c in
    ap (λ (n : ℕ). one + n) (filled_on frames next calls call)
    ∙ sums one (filled_of frames next calls) (length (frames_taken_by frames (after_calls (length frames) next calls) call))
  where
    sums : (a b c : ℕ) → a + (b + c) ≡ a + b + c
    sums a b c = omega arith

loads_on : (n : ℕ) (s : Standing) (calls : List Call) (call : Call) → loads_of n s (calls ++ call ∷ []) ≡ loads_of n s calls ++ loads_in n (after_calls n s calls) call
loads_on n s [] call = append-nil (loads_in n s call)
loads_on n s (c ∷ calls) call =
    let next : Standing = standing_after n s c in
    ap (λ (ss : List Setting). loads_in n s c ++ ss) (loads_on n next calls call)
    ∙ sym (append_assoc (loads_in n s c) (loads_of n next calls) (loads_in n (after_calls n next calls) call))

standing_on : (n : ℕ) (s : Standing) (calls : List Call) (call : Call) → after_calls n s (calls ++ call ∷ []) ≡ standing_after n (after_calls n s calls) call
standing_on n s [] call = refl
standing_on n s (c ∷ calls) call = standing_on n (standing_after n s c) calls call

-- ## The settings that were loaded

loaded_on : (n : ℕ) (x : Setting) (rs : List (ReaderEvent Setting)) → loaded (rs ++ Load n x ∷ []) ≡ loaded rs ++ x ∷ []
loaded_on n x [] = refl
loaded_on n x (Load m y ∷ rs) = ap (λ (ss : List Setting). y ∷ ss) (loaded_on n x rs)
loaded_on n x (reads.Learn c ∷ rs) = loaded_on n x rs

pub loaded_met : (c : ℕ) (rs : List (ReaderEvent Setting)) → loaded (rs ++ reads.Learn c ∷ []) ≡ loaded rs
loaded_met c [] = refl
loaded_met c (Load m y ∷ rs) = ap (λ (ss : List Setting). y ∷ ss) (loaded_met c rs)
loaded_met c (reads.Learn d ∷ rs) = loaded_met c rs

-- ## One call more

-- a call that used what it was to use goes on behind those before it
pub plays_on : (frames : List Frame) (first : Standing) (calls : List Call) (played : List Frame) (count : ℕ) (s next : Standing) (call : Call) (out : List Frame) (more : ℕ)
    → next.used ≡ used_in (length frames) s call
    → out ≡ output call.gains (taken frames next.used (head_heard (length frames) s.used s.head next.used) call.places) call.places
    → more ≡ length (taken frames next.used (head_heard (length frames) s.used s.head next.used) call.places)
    → next.head ≡ head_after (length frames) next.used (head_heard (length frames) s.used s.head next.used) call.places
    → CallsPlay frames first calls played count s → CallsPlay frames first (calls ++ call ∷ []) (played ++ out) (count + more) next
plays_on frames first calls played count s next call out more used out_is more_is head_is was =
    let n : ℕ = length frames in
    let out_in : out ≡ output call.gains (frames_taken_by frames s call) call.places = out_is ∙ (λ i. output call.gains (taken frames (used i) (head_heard n s.used s.head (used i)) call.places) call.places) in
    let more_in : more ≡ length (frames_taken_by frames s call) = more_is ∙ (λ i. length (taken frames (used i) (head_heard n s.used s.head (used i)) call.places)) in
    let head_in : next.head ≡ (standing_after n s call).head = head_is ∙ (λ i. head_after n (used i) (head_heard n s.used s.head (used i)) call.places) in
    let left : next ≡ standing_after n s call = (λ i. record { used = used i; head = head_in i }) in
    record {
      outputs = (λ i. was.outputs i ++ out_in i)
          ∙ ap (λ (t : Standing). outputs_of frames first calls ++ output call.gains (frames_taken_by frames t call) call.places) was.standing
          ∙ sym (outputs_on frames first calls call);
      filled = (λ i. was.filled i + more_in i)
          ∙ ap (λ (t : Standing). filled_of frames first calls + length (frames_taken_by frames t call)) was.standing
          ∙ sym (filled_on frames first calls call);
      standing = left ∙ ap (λ (t : Standing). standing_after n t call) was.standing ∙ sym (standing_on n first calls call);
    }

module _ (n : ℕ) (p heard_by : Plays) (load : is_valid n p.setting ≡ true → (k : ℕ) × (heard_by.events ≡ p.events ++ Load k heard_by.setting ∷ [])) (shut : is_valid n p.setting ≡ false → heard_by ≡ p) (gains : ℕ × ℕ) (places : ℕ) where
  -- the call of a player that has heard a setting
  abbrev heard_call : Call
  heard_call = record { setting = heard_by.setting; gains = gains; places = places }

  -- it uses the setting that it loaded, or the one that shut the player
  used_as : heard_by.setting ≡ used_in n (standing_of p) heard_call
  used_as = go (is_valid n p.setting) refl
    where
      go : (b : Bool) → is_valid n p.setting ≡ b → heard_by.setting ≡ (if is_valid n p.setting then heard_by.setting else p.setting)
      go true e = ap (λ (b : Bool). if b then heard_by.setting else p.setting) (sym e)
      go false e = ap (λ (x : Plays). x.setting) (shut e) ∙ ap (λ (b : Bool). if b then heard_by.setting else p.setting) (sym e)

  -- and what it loaded stands behind what was loaded before
  loads_as : loaded heard_by.events ≡ loaded p.events ++ loads_in n (standing_of p) heard_call
  loads_as = go (is_valid n p.setting) refl
    where
      go : (b : Bool) → is_valid n p.setting ≡ b → loaded heard_by.events ≡ loaded p.events ++ (if is_valid n p.setting then heard_by.setting ∷ [] else [])
      go true e =
          let one = load e in
          ap loaded one.1 ∙ loaded_on one.0 heard_by.setting p.events
          ∙ ap (λ (b : Bool). loaded p.events ++ (if b then heard_by.setting ∷ [] else [])) (sym e)
      go false e =
          ap (λ (x : Plays). loaded x.events) (shut e) ∙ sym (append-nil (loaded p.events))
          ∙ ap (λ (b : Bool). loaded p.events ++ (if b then heard_by.setting ∷ [] else [])) (sym e)

-- a call of a player, which hears a setting and then plays, goes on behind those before it
pub played_on : (frames : List Frame) (calls : List Call) (played : List Frame) (count : ℕ) (p h q : Plays) (gains : ℕ × ℕ) (places : ℕ) (out : List Frame) (more : ℕ)
    → p.size ≡ length frames → h.size ≡ p.size
    → (is_valid p.size p.setting ≡ true → (k : ℕ) × (h.events ≡ p.events ++ Load k h.setting ∷ [])) → (is_valid p.size p.setting ≡ false → h ≡ p)
    → h.head ≡ head_heard p.size p.setting p.head h.setting
    → out ≡ output gains (taken frames h.setting h.head places) places
    → more ≡ length (taken frames h.setting h.head places)
    → q ≡ record h { head = head_after h.size h.setting h.head places }
    → HasPlayed frames calls played count p
    → HasPlayed frames (calls ++ record { setting = q.setting; gains = gains; places = places } ∷ []) (played ++ out) (count + more) q
played_on frames calls played count p h q gains places out more size same load shut head_is out_is more_is left was =
    let n : ℕ = length frames in
    let valid : is_valid p.size p.setting ≡ is_valid n p.setting = ap (λ (k : ℕ). is_valid k p.setting) size in
    let loads : is_valid n p.setting ≡ true → (k : ℕ) × (h.events ≡ p.events ++ Load k h.setting ∷ []) = (λ e. load (valid ∙ e)) in
    let shuts : is_valid n p.setting ≡ false → h ≡ p = (λ e. shut (valid ∙ e)) in
    let call : Call = record { setting = h.setting; gains = gains; places = places } in
    let next : Plays = record h { head = head_after h.size h.setting h.head places } in
    let whole : h.size ≡ n = same ∙ size in
    let from : h.head ≡ head_heard n p.setting p.head h.setting = head_is ∙ (λ i. head_heard (size i) p.setting p.head h.setting) in
    subst (λ (x : Plays). HasPlayed frames (calls ++ record { setting = x.setting; gains = gains; places = places } ∷ []) (played ++ out) (count + more) x) (sym left) (record {
      all = plays_on frames unplayed calls played count (standing_of p) (standing_of next) call out more
          (used_as n p h loads shuts gains places)
          (out_is ∙ (λ i. output gains (taken frames h.setting (from i) places) places))
          (more_is ∙ (λ i. length (taken frames h.setting (from i) places)))
          (λ i. head_after (whole i) h.setting (from i) places)
          was.all;
      loads = loads_as n p h loads shuts gains places
          ∙ (λ i. was.loads i ++ loads_in n (was.all.standing i) call)
          ∙ sym (loads_on n unplayed calls call);
    })

-- ## A call that is alike

either_way : {X : Type 0} (b : Bool) (x : X) → cond b x x ≡ x
either_way true x = refl
either_way false x = refl

pub setting_stays : (n : ℕ) (found used : Setting) (b : Bool) → is_valid n used ≡ b → cond (is_valid n (cond b found used)) found (cond b found used) ≡ cond b found used
setting_stays n found used true is = either_way (is_valid n found) found
setting_stays n found used false is = ap (λ (b : Bool). cond b found used) is

-- a call that finds the setting that the one before it found uses the same
pub used_again : (n : ℕ) (s : Standing) (call : Call) (places : ℕ) → used_in n (standing_after n s call) (with_places call places) ≡ used_in n s call
used_again n s call places = setting_stays n call.setting s.used (is_valid n s.used) refl

-- it is heard no second time
pub heard_once : (n : ℕ) (s : Setting) (h : Head) → head_heard n s h s ≡ h
heard_once n s h =
    let known : (is_valid n s && not (s.number == s.number)) ≡ false = grind (arith, nat_tests) in
    ap (λ (b : Bool). if b then adopted s h else h) known
