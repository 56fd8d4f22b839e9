-- What each step on the table asks, for a seat of this block.
use Rattle.std.proofs.Common.{◌≡◌, ◌≢◌, ℕ, ◌+◌, ◌-◌, ◌%◌, ◌^◌, ◌<◌, if◌then◌else◌, Bool, true, false, bit_and, bit_or, List, [], ◌∷◌, ◌++◌, length, get_or, set, sym, refl, ap, ◌∙◌, subst, arith, mod-lt, length-append, append-nil}
use Rattle.af_cblk.proofs.Common.{Allows, Me, Shape, flushes_of, lawful_before, poke_is_not, step, wrapped}
use mathlib.Core.Option.{none}
use Rattle.af_base.specs.declared.event.ClientEvent.TheVariants as client
use Rattle.af_base.specs.declared.event.ServerEvent.TheVariants as server
use Rattle.af_cblk.specs.declared.view.ClientPart.{ClientPart}
use Rattle.af_cblk.specs.declared.view.ServerPart.{ServerPart}
use Rattle.af_cblk.specs.declared.view.View.{View}
use Rattle.af_cblk.specs.Shape.{IsShape, most_flushes}
use Rattle.af_cblk.specs.Parts.{ahead, released, room, Has, run_of, client_did, client_flushed, flush_amount, client_saw_front, cell_stored, stored_at, rear_stored, recorded, client_met, server_did, saw_flush, saw_rear, server_saw_front, saw_cell, took, dropped, front_stored, MayStoreFront, hand_set, hand_met}
use Rattle.af_cblk.specs.Rule.{StartsWith, Stands, Holds}
use Rattle.af_cblk.specs.Plays.{ClientSeesFront, CellIsStored, RearIsStored, ClientSeesFlags, ClientSeesStatus, Flushes, GainIsStored, FlagsAreCleared, Pokes, SeesFlush, SeesRear, ServerSeesFront, SeesCell, FrontIsStored, SeesGain, Tallies, FlagsAreSet, StatusIsStored, HandSets, ClientLearns, ServerLearns, HandMeets, HandRecalls}
use Rattle.af_cblk.proofs.Sized.{IsSized, sized, IsWrapped, wrapped_by}
use Rattle.af_cblk.proofs.Numbers.{ahead_of, ahead_is}
use Rattle.af_cblk.proofs.Rows.{run_length, set_back}
use Rattle.af_cblk.proofs.Seats.{client_steps, server_steps, hand_steps, server_hand_steps, pair_steps, client_hand_steps}
use Rattle.af_cblk.proofs.ClientSteps.{number_is, filled_fits, client_loads_front, client_stores_cell, client_stores_rear, flags_seen, client_loads_flags, client_loads_status, client_flushes, client_stores_gain, client_clears_flags}
use Rattle.af_cblk.proofs.ServerSteps.{server_loads_flush, server_loads_rear, server_loads_front, server_loads_cell, server_takes, server_drops, server_loads_gain, server_tallies, server_sets_flags, server_stores_status}
use Rattle.af_cblk.proofs.MeetingSteps.{hand_sets, client_learns, server_learns, hand_meets}

seven_off : (j : ℕ) → 7 + j - 7 ≡ j
seven_off j = omega arith

-- the cell of a position is one of the words
pub cell_within : (shape : Shape) → IsShape shape → (position index words : ℕ) → index ≡ 7 + position % shape.cells → words ≡ 7 + shape.cells → index < words
cell_within shape is position index words is_index wide = let m : position % shape.cells < shape.cells = mod-lt position (let a = is.some in let b = is.cells.1 in omega arith) in omega arith

abbrev Mine : Type 0
Mine = Me (Unit {0}) View

module _ (key shape : Shape) (keyed : key ≡ shape) (slots id : ℕ) (me : Mine) where
  -- what is asked of a seat whose part has the shape p, at the block of that shape
  moved : (p : Shape) → p ≡ shape → (i : ℕ) (f : ℕ → ℕ) (told : ℕ → Mine → Type 0) → Allows (Holds p) slots id me i f told → Allows (Holds key) slots id me i f told
  moved p same i f told = subst (λ (k : Shape). Allows (Holds k) slots id me i f told) (same ∙ sym keyed)

  -- ## The client

  module _ (is : me.0.is_client ≡ true) (same : me.0.client.shape ≡ shape) where
    abbrev c : ClientPart
    c = me.0.client

    pub front_by_client : IsShape shape → Allows (Holds key) slots id me 0 (λ n. n) (ClientSeesFront (step slots 0 0 0 none) me)
    front_by_client ok =
        let old : IsSized c.shape = sized c.shape (subst IsShape (sym same) ok) in
        let told = ClientSeesFront (step slots 0 0 0 none) me in
        moved c.shape same 0 (λ n. n) told (client_steps c.shape slots id 0 me (λ n. n) told (λ n. client_saw_front c (wrapped n)) is (λ words s h stands. (
          (λ ok. client_loads_front words c s h (stands (lawful_before c.events _ ok))),
          (refl, (λ ok. let now = client_loads_front words c s h (stands ok) in filled_fits _ (client_saw_front c (wrapped (get_or words 0 0))) s h now old)),
        )))

    cell_stored_there : IsShape shape → (position word : ℕ) → position < 2 ^ 32 → word < 2 ^ 32 → ahead (released c) position < room c
        → Allows (Holds key) slots id me (7 + position % shape.cells) (λ _. word) (λ _. CellIsStored (step slots (7 + position % shape.cells) word 0 none) me word)
    cell_stored_there ok position word small fits inside =
        let old : IsSized c.shape = sized c.shape (subst IsShape (sym same) ok) in
        let j : ℕ = position % c.shape.cells in
        let told : Shape → ℕ → Mine → Type 0 = λ k _. CellIsStored (step slots (7 + position % k.cells) word 0 none) me word in
        subst (λ (k : Shape). Allows (Holds k) slots id me (7 + position % shape.cells) (λ _. word) (told shape)) (sym keyed)
        (subst (λ (k : Shape). Allows (Holds k) slots id me (7 + position % k.cells) (λ _. word) (told k)) same
        (client_steps c.shape slots id (7 + j) me (λ _. word) (told c.shape) (λ n. cell_stored c j word) is (λ words s h stands. (
          (λ ok. client_stores_cell words c s h (stands ok) old position word small fits inside),
          ap (λ (n : ℕ). (record me.0 { client = cell_stored c n word }, me.1)) (sym (seven_off j)),
        ))))

    pub cell_by_client : IsShape shape → (position word index : ℕ) → index ≡ 7 + position % shape.cells → position < 2 ^ 32 → word < 2 ^ 32 → ahead (released c) position < room c
        → Allows (Holds key) slots id me index (λ _. word) (λ _. CellIsStored (step slots index word 0 none) me word)
    cell_by_client ok position word index is_index small fits inside =
        subst (λ (i : ℕ). Allows (Holds key) slots id me i (λ _. word) (λ _. CellIsStored (step slots i word 0 none) me word)) (sym is_index) (cell_stored_there ok position word small fits inside)

    pub rear_by_client : (count new : ℕ) → count < 2 ^ 32 → new ≡ wrapped (released c + count) → ((j : ℕ) → j < count → Has c.stored (length c.frames + j))
        → Allows (Holds key) slots id me 1 (λ _. new) (λ _. RearIsStored (step slots 1 new 0 none) me new)
    rear_by_client count new small names has =
        let told : ℕ → Mine → Type 0 = λ _. RearIsStored (step slots 1 new 0 none) me new in
        let far : ahead (released c) new ≡ count = ap (λ (n : ℕ). ahead (released c) n) names ∙ ahead_of (released c) count small in
        moved c.shape same 1 (λ _. new) told (client_steps c.shape slots id 1 me (λ _. new) told (λ n. rear_stored c count) is (λ words s h stands. (
          (λ ok. subst (λ (n : ℕ). Stands c.shape (set words 1 n) (rear_stored c count) s h) (sym names) (client_stores_rear words c s h (stands (lawful_before c.events _ ok)) count has)),
          ap (λ (n : ℕ). (record me.0 { client = rear_stored c n }, me.1)) (sym far),
        )))

    pub flags_by_client : Allows (Holds key) slots id me 4 (λ n. n) (ClientSeesFlags (step slots 4 0 0 none) me)
    flags_by_client =
        let told = ClientSeesFlags (step slots 4 0 0 none) me in
        moved c.shape same 4 (λ n. n) told (client_steps c.shape slots id 4 me (λ n. n) told (λ n. client_did c (client.SawFlags (recorded (wrapped n)))) is (λ words s h stands. (
          (λ ok. client_loads_flags words c s h (stands (lawful_before c.events _ ok))),
          (refl, (λ ok. let now = stands ok in (s.events, s.frames, h.events, now.learnt, (now.history, sym (flags_seen words c s h now))))),
        )))

    pub status_by_client : Allows (Holds key) slots id me 6 (λ n. n) (ClientSeesStatus (step slots 6 0 0 none) me)
    status_by_client =
        let told = ClientSeesStatus (step slots 6 0 0 none) me in
        moved c.shape same 6 (λ n. n) told (client_steps c.shape slots id 6 me (λ n. n) told (λ n. client_did c (client.SawStatus (wrapped n))) is (λ words s h stands. (
          (λ ok. client_loads_status words c s h (stands (lawful_before c.events _ ok))),
          refl,
        )))

    pub flush_by_client : flushes_of c.events < most_flushes c.shape.wrap → (amount : ℕ) → amount ≡ flush_amount c
        → Allows (Holds key) slots id me 2 (λ n. (n + amount) % 2 ^ 64) (Flushes (step slots 2 amount 0 none) me)
    flush_by_client few amount is_amount =
        let told = Flushes (step slots 2 amount 0 none) me in
        moved c.shape same 2 (λ n. (n + amount) % 2 ^ 64) told (client_steps c.shape slots id 2 me (λ n. (n + amount) % 2 ^ 64) told (λ n. client_flushed c) is (λ words s h stands. (
          (λ ok. client_flushes words c s h (stands (lawful_before c.events _ ok)) few amount is_amount),
          refl,
        )))

    pub gain_by_client : (word : ℕ) → word < 2 ^ 32 → Allows (Holds key) slots id me 5 (λ _. word) (λ _. GainIsStored (step slots 5 word 0 none) me word)
    gain_by_client word fits =
        let told : ℕ → Mine → Type 0 = λ _. GainIsStored (step slots 5 word 0 none) me word in
        moved c.shape same 5 (λ _. word) told (client_steps c.shape slots id 5 me (λ _. word) told (λ n. client_did c (client.SetGain word)) is (λ words s h stands. (
          (λ ok. client_stores_gain words c s h (stands (lawful_before c.events _ ok)) word fits),
          refl,
        )))

    -- the mask has all bits but DISABLED
    pub clear_by_client : (mask : ℕ) → mask ≡ 4294967287 → Allows (Holds key) slots id me 4 (λ n. bit_and n mask) (FlagsAreCleared (step slots 4 mask 0 none) me)
    clear_by_client mask is_mask =
        subst (λ (z : ℕ). Allows (Holds key) slots id me 4 (λ n. bit_and n z) (FlagsAreCleared (step slots 4 z 0 none) me)) (sym is_mask) cleared
      where
        cleared : Allows (Holds key) slots id me 4 (λ n. bit_and n 4294967287) (FlagsAreCleared (step slots 4 4294967287 0 none) me)
        cleared =
            let told = FlagsAreCleared (step slots 4 4294967287 0 none) me in
            moved c.shape same 4 (λ n. bit_and n 4294967287) told (client_steps c.shape slots id 4 me (λ n. bit_and n 4294967287) told (λ n. client_did c (client.ClearFlags (wrapped n))) is (λ words s h stands. (
              (λ ok. client_clears_flags words c s h (stands (lawful_before c.events _ ok))),
              refl,
            )))

    -- after a poke the rule says nothing of the words
    pub poke_by_client : (word value : ℕ) → Allows (Holds key) slots id me word (λ _. value) (λ _. Pokes (step slots word value 0 none) me value)
    poke_by_client word value =
        let told : ℕ → Mine → Type 0 = λ _. Pokes (step slots word value 0 none) me value in
        moved c.shape same word (λ _. value) told (client_steps c.shape slots id word me (λ _. value) told (λ n. client_did c (client.Poke word value)) is (λ words s h stands. (
          (λ ok. absurd (poke_is_not c.events word value ok)),
          refl,
        )))

  -- ## The server

  module _ (is : me.0.is_server ≡ true) (same : me.0.server.shape ≡ shape) where
    abbrev s : ServerPart
    s = me.0.server

    pub flush_by_server : Allows (Holds key) slots id me 2 (λ n. n) (SeesFlush (step slots 2 0 0 none) me)
    flush_by_server =
        let told = SeesFlush (step slots 2 0 0 none) me in
        moved s.shape same 2 (λ n. n) told (server_steps s.shape slots id 2 me (λ n. n) told (λ n. saw_flush s (wrapped n)) is (λ n. (server.SawFlush (wrapped n) ∷ [], refl)) (λ words c h stands. ((λ ok. server_loads_flush words c s h (stands ok)), refl)))

    pub rear_by_server : Allows (Holds key) slots id me 1 (λ n. n) (SeesRear (step slots 1 0 0 none) me)
    rear_by_server =
        let told = SeesRear (step slots 1 0 0 none) me in
        moved s.shape same 1 (λ n. n) told (server_steps s.shape slots id 1 me (λ n. n) told (λ n. saw_rear s (wrapped n)) is (λ n. (server.SawRear (wrapped n) ∷ [], refl)) (λ words c h stands. ((λ ok. server_loads_rear words c s h (stands ok)), refl)))

    pub front_by_server : Allows (Holds key) slots id me 0 (λ n. n) (ServerSeesFront (step slots 0 0 0 none) me)
    front_by_server =
        let told = ServerSeesFront (step slots 0 0 0 none) me in
        moved s.shape same 0 (λ n. n) told (server_steps s.shape slots id 0 me (λ n. n) told (λ n. server_saw_front s (wrapped n)) is (λ n. (server.SawFront (wrapped n) ∷ [], refl)) (λ words c h stands. ((λ ok. server_loads_front words c s h (stands ok)), refl)))

    cell_seen_there : IsShape shape → (position : ℕ) → Allows (Holds key) slots id me (7 + position % shape.cells) (λ n. n) (SeesCell (step slots (7 + position % shape.cells) 0 0 none) me)
    cell_seen_there ok' position =
        let old : IsSized s.shape = sized s.shape (subst IsShape (sym same) ok') in
        let j : ℕ = position % s.shape.cells in
        let told : Shape → ℕ → Mine → Type 0 = λ k. SeesCell (step slots (7 + position % k.cells) 0 0 none) me in
        subst (λ (k : Shape). Allows (Holds k) slots id me (7 + position % shape.cells) (λ n. n) (told shape)) (sym keyed)
        (subst (λ (k : Shape). Allows (Holds k) slots id me (7 + position % k.cells) (λ n. n) (told k)) same
        (server_steps s.shape slots id (7 + j) me (λ n. n) (told s.shape) (λ n. saw_cell s j (wrapped n)) is (λ n. ([], append-nil s.events)) (λ words c h stands. (
          (λ ok. server_loads_cell words c s h (stands ok) old (wrapped_by s.shape (subst IsShape (sym same) ok')) position),
          ap (λ (n : ℕ). (record me.0 { server = saw_cell s n (wrapped (get_or words (7 + j) 0)) }, me.1)) (sym (seven_off j)),
        ))))

    pub cell_by_server : IsShape shape → (position index : ℕ) → index ≡ 7 + position % shape.cells → Allows (Holds key) slots id me index (λ n. n) (SeesCell (step slots index 0 0 none) me)
    cell_by_server ok position index is_index =
        subst (λ (i : ℕ). Allows (Holds key) slots id me i (λ n. n) (SeesCell (step slots i 0 0 none) me)) (sym is_index) (cell_seen_there ok position)

    pub front_stored_by_server : IsShape shape → (front : ℕ) → front < 2 ^ 32 → MayStoreFront s front
        → Allows (Holds key) slots id me 0 (λ _. front) (λ _. FrontIsStored (step slots 0 front 0 none) me front)
    front_stored_by_server ok' front small may =
        let old : IsSized s.shape = sized s.shape (subst IsShape (sym same) ok') in
        let told : ℕ → Mine → Type 0 = λ _. FrontIsStored (step slots 0 front 0 none) me front in
        moved s.shape same 0 (λ _. front) told (server_steps s.shape slots id 0 me (λ _. front) told (λ n. front_stored s front) is (λ n. stored_more s.noticed) (λ words c h stands. (
          (λ ok. by_case words c h (stands ok) old (wrapped_by s.shape (subst IsShape (sym same) ok')) s.noticed refl),
          refl,
        )))
      where
        by_case : (words : _) (c : _) (h : _) → Stands s.shape words c s h → IsSized s.shape → (s.shape.wrap ≢ 0 → IsWrapped s.shape) → (b : Bool) → s.noticed ≡ b
            → Stands s.shape (set words 0 front) c (if b then dropped s front else took s front) h
        by_case words c h now old wrap true is = server_drops words c s h now old wrap front is (may.0 is)
        by_case words c h now old wrap false is = server_takes words c s h now old wrap front small is (may.1 is)

        stored_more : (b : Bool) → StartsWith (if b then dropped s front else took s front).events s.events
        stored_more true = (server.Drop front ∷ [], refl)
        stored_more false = (server.Take (ahead s.front front) ∷ [], refl)

    pub gain_by_server : Allows (Holds key) slots id me 5 (λ n. n) (SeesGain (step slots 5 0 0 none) me)
    gain_by_server =
        let told = SeesGain (step slots 5 0 0 none) me in
        moved s.shape same 5 (λ n. n) told (server_steps s.shape slots id 5 me (λ n. n) told (λ n. server_did s (server.SawGain (wrapped n))) is (λ n. (server.SawGain (wrapped n) ∷ [], refl)) (λ words c h stands. ((λ ok. server_loads_gain words c s h (stands ok)), refl)))

    pub tally_by_server : (missing : ℕ) → Allows (Holds key) slots id me 3 (λ n. (n + missing) % 2 ^ 64) (Tallies (step slots 3 missing 0 none) me)
    tally_by_server missing =
        let told = Tallies (step slots 3 missing 0 none) me in
        moved s.shape same 3 (λ n. (n + missing) % 2 ^ 64) told (server_steps s.shape slots id 3 me (λ n. (n + missing) % 2 ^ 64) told (λ n. server_did s (server.Tally missing)) is (λ n. (server.Tally missing ∷ [], refl)) (λ words c h stands. ((λ ok. server_tallies words c s h (stands ok) missing), refl)))

    pub flags_by_server : (bits : ℕ) → bits < 2 ^ 32 → Allows (Holds key) slots id me 4 (λ n. bit_or n bits) (FlagsAreSet (step slots 4 bits 0 none) me)
    flags_by_server bits fits =
        let told = FlagsAreSet (step slots 4 bits 0 none) me in
        moved s.shape same 4 (λ n. bit_or n bits) told (server_steps s.shape slots id 4 me (λ n. bit_or n bits) told (λ n. server_did s (server.SetFlags bits)) is (λ n. (server.SetFlags bits ∷ [], refl)) (λ words c h stands. ((λ ok. server_sets_flags words c s h (stands ok) bits fits), refl)))

    pub status_by_server : (word : ℕ) → word < 2 ^ 32 → Allows (Holds key) slots id me 6 (λ _. word) (λ _. StatusIsStored (step slots 6 word 0 none) me word)
    status_by_server word fits =
        let told : ℕ → Mine → Type 0 = λ _. StatusIsStored (step slots 6 word 0 none) me word in
        moved s.shape same 6 (λ _. word) told (server_steps s.shape slots id 6 me (λ _. word) told (λ n. server_did s (server.SetStatus word)) is (λ n. (server.SetStatus word ∷ [], refl)) (λ words c h stands. ((λ ok. server_stores_status words c s h (stands ok) word fits), refl)))

  -- ## The hand and meetings

  pub set_by_hand : me.0.is_hand ≡ true → Allows (Holds key) slots id me 4 (λ n. bit_or n 8) (HandSets (step slots 4 8 0 none) me)
  set_by_hand is =
      hand_steps key slots id 4 me (λ n. bit_or n 8) (HandSets (step slots 4 8 0 none) me) (hand_set me.0.hand) is (λ words c s stands. ((λ ok. hand_sets key words c s me.0.hand (stands ok)), refl))

  pub learns_by_client : me.0.is_client ≡ true → me.0.is_server ≡ true → Allows (Holds key) slots id me 0 (λ n. n) (ClientLearns (step slots 0 0 0 none) me)
  learns_by_client is_c is_s =
      let c = me.0.client in
      let s = me.0.server in
      pair_steps key slots id 0 me (λ n. n) (ClientLearns (step slots 0 0 0 none) me) (client_met c s.events) s is_c is_s ([], append-nil s.events) (λ words h stands its. (
        (λ ok. client_learns key words c s h (stands (lawful_before c.events _ ok))),
        refl,
      ))

  pub learns_by_server : me.0.is_client ≡ true → me.0.is_server ≡ true → me.0.client.shape ≡ shape → Allows (Holds key) slots id me 0 (λ n. n) (ServerLearns (step slots 0 0 0 none) me)
  learns_by_server is_c is_s same =
      let c = me.0.client in
      let s = me.0.server in
      let told = ServerLearns (step slots 0 0 0 none) me in
      moved c.shape same 0 (λ n. n) told (pair_steps c.shape slots id 0 me (λ n. n) told c (server_did s (server.Learn (length c.events - 1))) is_c is_s (server.Learn (length c.events - 1) ∷ [], refl) (λ words h stands its. (
        (λ ok. server_learns c.shape words c s h (stands ok)),
        (refl, (λ ok. let now = server_learns c.shape words c s h (stands ok) in (h.events, (λ x. ap (λ p. p.events) (its x)), now.history))),
      )))

  pub meets_by_hand : me.0.is_client ≡ true → me.0.is_hand ≡ true → me.0.client.shape ≡ shape → Allows (Holds key) slots id me 0 (λ n. n) (HandMeets (step slots 0 0 0 none) me)
  meets_by_hand is_c is_h same =
      let c = me.0.client in
      let h = me.0.hand in
      let told = HandMeets (step slots 0 0 0 none) me in
      moved c.shape same 0 (λ n. n) told (client_hand_steps c.shape slots id 0 me (λ n. n) told c (hand_met h (length c.events)) is_c is_h (λ words s stands his. (
        (λ ok. hand_meets c.shape words c s h (stands ok)),
        (refl, (λ x. ap (λ p. p.events) (his x)), (λ ok. let now = hand_meets c.shape words c s h (stands ok) in (s.frames, now.learnt, (λ x. ap (λ p. p.frames) (his x)), now.history))),
      )))

  pub recalled_by_hand : me.0.is_server ≡ true → me.0.is_hand ≡ true → Allows (Holds key) slots id me 0 (λ n. n) (HandRecalls (step slots 0 0 0 none) me)
  recalled_by_hand is_s is_h =
      server_hand_steps key slots id 0 me (λ n. n) (HandRecalls (step slots 0 0 0 none) me) is_s is_h (λ words c stands ok. subst (λ (ws : List ℕ). Stands key ws c me.0.server me.0.hand) (sym (set_back words 0)) (stands ok)) (λ goes_on n. (refl, goes_on))

-- the cell that a step wrote is that of the position
pub cell_is : (c : ClientPart) (shape : Shape) → c.shape ≡ shape → IsShape shape → (position word index : ℕ) → index ≡ 7 + position % shape.cells → position < 2 ^ 32 → ahead (released c) position < room c
    → cell_stored c (index - 7) word ≡ stored_at c position word
cell_is c shape same ok position word index is_index small inside =
    let old : IsSized c.shape = sized c.shape (subst IsShape (sym same) ok) in
    let j : ℕ = position % c.shape.cells in
    ap (λ (i : ℕ). cell_stored c (i - 7) word) is_index ∙ ap (λ (k : Shape). cell_stored c (7 + position % k.cells - 7) word) (sym same) ∙ ap (λ (n : ℕ). cell_stored c n word) (seven_off j)
    ∙ ap (λ (n : ℕ). record c { stored = (n, word) ∷ c.stored }) (number_is c old position small inside)

-- the word of the position after a release
pub rear_is : (c : ClientPart) (new : ℕ) → new < 2 ^ 32 → new ≡ wrapped (released (rear_stored c (ahead (released c) new)))
rear_is c new small =
    let count : ℕ = ahead (released c) new in
    let fs = run_of c.stored (length c.frames) count in
    let long : c.shape.base + length (c.frames ++ fs) ≡ released c + count = (let a = length-append c.frames fs in let b = run_length c.stored (length c.frames) count in omega arith) in
    sym (ap wrapped long ∙ ahead_is (released c) new small)
