-- From the chain of edits to the definition's.
use Rattle.std.proofs.Common.{◌≡◌, ◌≢◌, ℕ, zero, suc, ◌+◌, ◌<◌, ◌≤◌, ◌==◌, ◌||◌, Bool, true, false, if◌then◌else◌, true≢false, MatchBool, ◌⊎◌, inl, inr, sym, refl, ap, subst, ◌∙◌, List, [], ◌∷◌, length, Option, Some, None, get_or-set_other, arith}
use Rattle.af_normal.proofs.Common.{Busy, Clean, Command, Heard, Learnt, LegalPush, Mutates, NormalKept, Push, Pushed, Returning, SeesIt, ServerState, Setup, StreamNames, WasPushed, after_push, code_of, commanded_by, commands_exit, draft_commanded as with_command, edited, edited_to, known_by, lend, lent_by, let_go, listed, must_enter, must_leave, mutated, next_command, or_false, or_true, ordered, pipe_size, saw, shows, slice_set, slot_number, track_at, word}
use Rattle.af_normal.specs.Editing.{LetsGo, Lends, lets_go, lends}
use Rattle.af_normal.proofs.Words.{kept_open}
use Rattle.af_normal.specs.Mixing.{stream_at}
use Rattle.af_normal.specs.Mutating.{EditsTrack, EditsTo, EditsAll, Pushes, begun, commands, finished, due_command}
use Rattle.af_normal.specs.State.{NormalState, setup_of, kept_of}

-- ## One track

-- a proxy is as it was, or was lent
abbrev pub SameOrGone : Option ServerState → Option ServerState → Type 0
SameOrGone o p = (p ≡ o) ⊎ (p ≡ None)

lent_or_same : (streams : List (Option ServerState)) (i j : ℕ) → SameOrGone (stream_at streams j) (stream_at (slice_set streams i None) j)
lent_or_same [] i j = inl refl
lent_or_same (o ∷ streams) zero zero = inr refl
lent_or_same (o ∷ streams) zero (suc j) = inl refl
lent_or_same (o ∷ streams) (suc i) zero = inl refl
lent_or_same (o ∷ streams) (suc i) (suc j) = lent_or_same streams i j

and_then : (o p q : Option ServerState) → SameOrGone o p → SameOrGone p q → SameOrGone o q
and_then o p q (inl e) (inl f) = inl (f ∙ e)
and_then o p q (inr e) (inl f) = inr (f ∙ e)
and_then o p q a (inr f) = inr f

taken : (b : Bool) (m n : NormalKept) → b ≡ true → m ≡ (if b then m else n)
taken true m n e = refl
taken false m n e = absurd (true≢false (sym e))

passed : (b : Bool) (m n : NormalKept) → b ≡ false → n ≡ (if b then m else n)
passed true m n e = absurd (true≢false e)
passed false m n e = refl

dirtied : (m : NormalKept) (b : Bool) → record m { dirty = b || true } ≡ record m { dirty = true }
dirtied m b = ap (λ (d : Bool). record m { dirty = d }) (or_true b)

module _ (c : Setup) (k : Learnt) (i : ℕ) where
  -- what the definition makes of the track i, by cases
  leaver : (m : NormalKept) → must_leave (track_at m.tracks i) ≡ true → let_go i m ≡ edited c k i m
  unfolding edited
  leaver m e = taken (must_leave (track_at m.tracks i)) (let_go i m) _ e

  comer : (m : NormalKept) → must_leave (track_at m.tracks i) ≡ false → must_enter (track_at m.tracks i) ≡ true → lend c i (k.own i) m ≡ edited c k i m
  unfolding edited
  comer m e f = taken (must_enter (track_at m.tracks i)) (lend c i (k.own i) m) m f ∙ passed (must_leave (track_at m.tracks i)) _ _ e

  stays : (m : NormalKept) → must_leave (track_at m.tracks i) ≡ false → must_enter (track_at m.tracks i) ≡ false → m ≡ edited c k i m
  unfolding edited
  stays m e f = passed (must_enter (track_at m.tracks i)) (lend c i (k.own i) m) m f ∙ passed (must_leave (track_at m.tracks i)) _ _ e

  goes_is : (x : NormalState) → kept_open (record x { tracks = slice_set x.tracks i (record (track_at x.tracks i) { holder = Returning }); mutator = lets_go (slot_number (track_at x.tracks i)) x.mutator }) ≡ let_go i (kept_open x)
  unfolding let_go
  goes_is x = dirtied (let_go i (kept_open x)) x.mutator.dirty

  lent_is : (x : NormalState) (server : ServerState) → c ≡ setup_of x → k.own i ≡ known_by (listed server)
      → kept_open (record x { tracks = slice_set x.tracks i (lent_by (lends x i (slot_number (track_at x.tracks i)) server).draft (known_by (listed server)) (track_at x.tracks i)); streams = slice_set x.streams i None; mutator = lends x i (slot_number (track_at x.tracks i)) server })
      ≡ lend c i (k.own i) (kept_open x)
  unfolding lend
  lent_is x server setup own = dirtied (lend (setup_of x) i (known_by (listed server)) (kept_open x)) x.mutator.dirty
      ∙ ap (λ (h : Heard). lend (setup_of x) i h (kept_open x)) (sym own) ∙ ap (λ (d : Setup). lend d i (k.own i) (kept_open x)) (sym setup)

  -- nothing changes but the tracks, the stream proxies and the mutator
  abbrev pub Same : NormalState → NormalState → Type 0
  Same x y = y ≡ record x { tracks = y.tracks; streams = y.streams; mutator = y.mutator }

  -- one track was edited as the definition says
  pub record EditedOne (x y : NormalState) : Type 0 where
    pub kept_is : kept_open y ≡ edited c k i (kept_open x)
    pub same : Same x y
    pub past : y.mutator.past ≡ x.mutator.past
    pub others : (j : ℕ) → j ≢ i → stream_at y.streams j ≡ stream_at x.streams j
    pub streams : (j : ℕ) → SameOrGone (stream_at x.streams j) (stream_at y.streams j)

  pub edited_one : (x y : NormalState) → c ≡ setup_of x → ((s : ServerState) → stream_at x.streams i ≡ Some s → k.own i ≡ known_by (listed s)) → EditsTrack i x y → EditedOne x y
  edited_one x y setup own e = by_leave (must_leave (track_at x.tracks i)) refl e
    where
      by_enter : (b : Bool) → must_leave (track_at x.tracks i) ≡ false → must_enter (track_at x.tracks i) ≡ b → MatchBool b (Lends i x y) (y ≡ x) → EditedOne x y
      by_enter true not_left is l = record {
        kept_is = ap kept_open l.2 ∙ lent_is x l.0 setup (own l.0 l.1) ∙ comer (kept_open x) not_left is;
        same = subst (Same x) (sym l.2) refl;
        past = ap (λ (z : NormalState). z.mutator.past) l.2;
        others = (λ j ne. ap (λ (z : NormalState). stream_at z.streams j) l.2 ∙ get_or-set_other x.streams i j None None ne);
        streams = (λ j. subst (λ (z : NormalState). SameOrGone (stream_at x.streams j) (stream_at z.streams j)) (sym l.2) (lent_or_same x.streams i j));
      }
      by_enter false not_left is l = record {
        kept_is = ap kept_open l ∙ stays (kept_open x) not_left is;
        same = subst (Same x) (sym l) refl;
        past = ap (λ (z : NormalState). z.mutator.past) l;
        others = (λ j ne. ap (λ (z : NormalState). stream_at z.streams j) l);
        streams = (λ j. inl (ap (λ (z : NormalState). stream_at z.streams j) l));
      }

      by_leave : (b : Bool) → must_leave (track_at x.tracks i) ≡ b → MatchBool b (LetsGo i x y) (MatchBool (must_enter (track_at x.tracks i)) (Lends i x y) (y ≡ x)) → EditedOne x y
      by_leave true is l = record {
        kept_is = ap kept_open l ∙ goes_is x ∙ leaver (kept_open x) is;
        same = subst (Same x) (sym l) refl;
        past = ap (λ (z : NormalState). z.mutator.past) l;
        others = (λ j ne. ap (λ (z : NormalState). stream_at z.streams j) l);
        streams = (λ j. inl (ap (λ (z : NormalState). stream_at z.streams j) l));
      }
      by_leave false is l = by_enter (must_enter (track_at x.tracks i)) is refl l

-- ## All tracks

module _ (c : Setup) (k : Learnt) (x : NormalState) (setup : c ≡ setup_of x) (own : (i : ℕ) (s : ServerState) → stream_at x.streams i ≡ Some s → k.own i ≡ known_by (listed s)) where
  pub record EditedTo (n : ℕ) (y : NormalState) : Type 0 where
    pub kept_is : kept_open y ≡ edited_to c k (kept_open x) n
    pub same : y ≡ record x { tracks = y.tracks; streams = y.streams; mutator = y.mutator }
    pub past : y.mutator.past ≡ x.mutator.past
    pub others : (j : ℕ) → n ≤ j → stream_at y.streams j ≡ stream_at x.streams j
    pub streams : (j : ℕ) → SameOrGone (stream_at x.streams j) (stream_at y.streams j)

  pub edited_all : (n : ℕ) (y : NormalState) → EditsTo n x y → EditedTo n y
  edited_all zero y e = record {
    kept_is = ap kept_open e;
    same = subst (λ (z : NormalState). z ≡ record x { tracks = z.tracks; streams = z.streams; mutator = z.mutator }) (sym e) refl;
    past = ap (λ (z : NormalState). z.mutator.past) e;
    others = (λ j le. ap (λ (z : NormalState). stream_at z.streams j) e);
    streams = (λ j. inl (ap (λ (z : NormalState). stream_at z.streams j) e));
  }
  edited_all (suc n) y (z, before, e) =
      let b : EditedTo n z = edited_all n z before in
      let one : EditedOne c k n z y = edited_one c k n z y (setup ∙ sym (ap setup_of b.same)) (λ s is. own n s (sym (b.others n (omega arith)) ∙ is)) e in record {
        kept_is = one.kept_is ∙ ap (edited c k n) b.kept_is;
        same = one.same ∙ ap (λ (w : NormalState). record w { tracks = y.tracks; streams = y.streams; mutator = y.mutator }) b.same;
        past = one.past ∙ b.past;
        others = (λ j le. one.others j (λ is. omega arith) ∙ b.others j (omega arith));
        streams = (λ j. and_then (stream_at x.streams j) (stream_at z.streams j) (stream_at y.streams j) (b.streams j) (one.streams j));
      }

-- ## The whole mutation

module _ (c : Setup) (k : Learnt) (room : ℕ) (x y : NormalState) (setup : c ≡ setup_of x) (own : (i : ℕ) (s : ServerState) → stream_at x.streams i ≡ Some s → k.own i ≡ known_by (listed s)) where
  -- a command is set if it is another one
  order_is : (command : Command) (z : NormalState) → kept_open (record z { mutator = commands command z.mutator }) ≡ ordered command (kept_open z)
  unfolding ordered
  order_is command z = by_same (code_of command == code_of z.mutator.draft.command)
    where
      by_same : (b : Bool) → kept_open (record z { mutator = if b then z.mutator else record z.mutator { draft = with_command command z.mutator.draft; edited = true } })
          ≡ (if b then kept_open z else record (kept_open z) { draft = with_command command z.mutator.draft; dirty = true })
      by_same true = refl
      by_same false = dirtied (record (kept_open z) { draft = with_command command z.mutator.draft }) z.mutator.dirty

  begun_is : kept_open (record x { mutator = begun x.mutator }) ≡ kept_of x
  begun_is = ap (λ (d : Bool). record (kept_of x) { dirty = d }) (or_false x.mutator.dirty)

  -- all edits are those of the definition
  pub edits_are : EditsAll room x y → kept_of y ≡ mutated c k room (kept_of x)
  unfolding mutated
  edits_are e =
      let b : EditedTo c k (record x { mutator = begun x.mutator }) setup own (length x.tracks) e.edited = edited_all c k (record x { mutator = begun x.mutator }) setup own (length x.tracks) e.edited e.tracks in
      let z : NormalState = e.edited in
      ap kept_of e.leaves
      ∙ order_is (due_command room e.edited) e.edited
      ∙ ap (λ (d : Setup). ordered (next_command (commands_exit e.edited.mutator.draft) e.edited.tracks room (pipe_size d)) (kept_open e.edited)) (ap setup_of b.same ∙ sym setup)
      ∙ ap (commanded_by c room) (b.kept_is ∙ ap (λ (m : NormalKept). edited_to c k m (length x.tracks)) begun_is)

  -- neither the last state nor the other parts of the mixer change
  pub record Mutated : Type 0 where
    pub same : y ≡ record x { tracks = y.tracks; streams = y.streams; mutator = y.mutator }
    pub past : y.mutator.past ≡ x.mutator.past
    pub streams : (j : ℕ) → SameOrGone (stream_at x.streams j) (stream_at y.streams j)

  pub edits_same : EditsAll room x y → Mutated
  edits_same e =
      let b : EditedTo c k (record x { mutator = begun x.mutator }) setup own (length x.tracks) e.edited = edited_all c k (record x { mutator = begun x.mutator }) setup own (length x.tracks) e.edited e.tracks in record {
        same = subst (λ (w : NormalState). w ≡ record x { tracks = w.tracks; streams = w.streams; mutator = w.mutator }) (sym e.leaves)
            (ap (λ (w : NormalState). record w { mutator = finished (commands (due_command room e.edited) e.edited.mutator) }) b.same);
        past = ap (λ (w : NormalState). w.mutator.past) e.leaves ∙ past_is (code_of (due_command room e.edited) == code_of e.edited.mutator.draft.command) (due_command room e.edited) e.edited ∙ b.past;
        streams = (λ j. subst (λ (w : NormalState). SameOrGone (stream_at x.streams j) (stream_at w.streams j)) (sym e.leaves) (b.streams j));
      }
    where
      past_is : (b : Bool) (command : Command) (z : NormalState) → (finished (if b then z.mutator else record z.mutator { draft = with_command command z.mutator.draft; edited = true })).past ≡ z.mutator.past
      past_is true command z = refl
      past_is false command z = refl

-- ## The push

module _ (push : Push) (x y : NormalState) (e : Pushes push x y) where
  kept_with : (m : Mutates ServerState StreamNames) → y.mutator ≡ m → kept_of y ≡ kept_of (record x { mutator = m })
  kept_with m is = ap kept_of e.same ∙ ap (λ (n : Mutates ServerState StreamNames). kept_of (record x { mutator = n })) is

  -- the answer is a legal one, and leaves what the definition says
  pub push_legal : LegalPush (kept_of x) push × (kept_of y ≡ after_push push (kept_of x))
  push_legal = by_answer push e.pushed
    where
      shown : (dirty : x.mutator.dirty ≡ true) (number : ℕ) (n : ℕ) → x.mutator.past.number ≡ n
          → (n ≡ 0 → (y.mutator ≡ shows x.mutator) × (e.after ≡ e.before + 1))
          → (0 < n → (w : Mutates ServerState StreamNames) × SeesIt x.mutator w × (y.mutator ≡ shows w) × (e.after ≡ e.before + 2))
          → kept_of y ≡ after_push (Pushed number) (kept_of x)
      shown dirty number zero is first later = kept_with (shows x.mutator) (first refl).0
      shown dirty number (suc n) is first later = let l = later (omega arith) in
          kept_with (shows l.0) l.2 ∙ ap (λ (w : Mutates ServerState StreamNames). kept_of (record x { mutator = shows w })) l.1.1

      by_answer : (p : Push) → WasPushed x.mutator p y.mutator e.before e.after → LegalPush (kept_of x) p × (kept_of y ≡ after_push p (kept_of x))
      by_answer Clean w = (w.0, kept_with x.mutator w.1)
      by_answer (Pushed number) w = ((w.0, w.1), shown w.0 number x.mutator.past.number refl w.2 w.3)
      by_answer (Busy seen expected) w = let older = w.3 in (
        (w.0, older.2.0, w.1, older.1 ∙ ap word (let a : older.0 + 1 ≡ x.mutator.past.number = older.2.1 in omega arith)),
        kept_with (record x.mutator { past = saw older.0 [] x.mutator.past }) older.2.2,
      )
