-- The proxies that the observer holds, as one of them is played.
use Rattle.std.proofs.Common.{◌≡◌, ℕ, ◌<◌, ◌⊎◌, inl, inr, List, length, length-set, Option, Some, None, is_some, slice_set, slice_index_or, sym, ap, subst, ◌∙◌, arith}
use Rattle.af_fast.proofs.Common.{InOrder, IsServerOf, IsStreamOf, Made, Observes, ServerState, StreamNames, at, carries, cases_eq, get_or-replicate, get_or-set_other, get_or-set_same, has, nothing, server_made, slot_of, slots, some_same}
use Rattle.std.proofs.lemmas.Option.{slice_get_within, get_or_from_slice_get}
use Rattle.af_fast.specs.Fits.{stream_fits, NamesBlocks}
use Rattle.af_fast.specs.Mixer.{CarriesNone}

-- an observer that holds no items has a state that carries none
pub begins_bare : (o : Observes ServerState StreamNames) → InOrder stream_fits o → o.items ≡ nothing → o.past.number ≡ 0 → CarriesNone o.past.state
begins_bare o order empty none i lt = sym (order.held i lt) ∙ ap (λ (items : List (Option ServerState)). has items i) empty ∙ ap is_some (get_or-replicate slots i None None lt)

module _ (o : Observes ServerState StreamNames) (blocks : List Made) (slot track : ℕ) (order : InOrder stream_fits o) (names : NamesBlocks o.past.key blocks) (inside : slot < slots)
    (same : track ≡ (slot_of o.past.state slot).track) (s : ServerState) (was : at o.items slot ≡ Some s) where
  -- a proxy that is held belongs to the track of its slot
  pub held_fits : IsStreamOf blocks track s
  held_fits = subst (λ (bt : List Made × ℕ). IsStreamOf bt.0 bt.1 s) (λ i. (names.2 i, sym same i)) (order.fit names.0 names.1 slot s inside was)

  -- there is a block with the number of the track
  pub has_block : track < length blocks
  has_block = slice_get_within blocks track (server_made s.pass) held_fits.made

  -- after a call on the proxy the observer is in order again
  module _ (t : ServerState) (fits : IsStreamOf blocks track t) where
    abbrev items : List (Option ServerState)
    items = slice_set o.items slot (Some t)

    here : at items slot ≡ Some t
    here = get_or-set_same o.items slot (Some t) None (omega (arith, order.whole))

    there : (i : ℕ) → (i ≡ slot → ⊥) → at items i ≡ at o.items i
    there i other = get_or-set_other o.items slot i (Some t) None other

    held_one : (i : ℕ) → i < slots → (i ≡ slot) ⊎ (i ≡ slot → ⊥) → has items i ≡ carries o.past.state i
    held_one i lt (inl e) = ap (λ (j : ℕ). has items j) e ∙ ap is_some here ∙ sym (ap is_some was) ∙ order.held slot inside ∙ ap (carries o.past.state) (sym e)
    held_one i lt (inr other) = ap is_some (there i other) ∙ order.held i lt

    fit_one : (key : StreamNames) → o.past.key ≡ Some key → (i : ℕ) (p : ServerState) → i < slots → at items i ≡ Some p → (i ≡ slot) ⊎ (i ≡ slot → ⊥) → stream_fits key (slot_of o.past.state i).track p
    fit_one key k i p lt is (inl e) =
        let one_key : names.0 ≡ key = some_same names.0 key (sym names.1 ∙ k) in
        let blocks_is : blocks ≡ key.blocks = sym names.2 ∙ ap (λ (n : StreamNames). n.blocks) one_key in
        let track_is : track ≡ (slot_of o.past.state i).track = same ∙ ap (λ (j : ℕ). (slot_of o.past.state j).track) (sym e) in
        let item_is : t ≡ p = some_same t p (sym here ∙ ap (at items) (sym e) ∙ is) in
        subst (λ (x : List Made × ℕ × ServerState). IsStreamOf x.0 x.1 x.2) (λ j. (blocks_is j, track_is j, item_is j)) fits
    fit_one key k i p lt is (inr other) = order.fit key k i p lt (sym (there i other) ∙ is)

    pub order_held : InOrder stream_fits (record o { items = items })
    order_held = record {
      told = order.told;
      state = order.state;
      whole = length-set o.items slot (Some t) ∙ order.whole;
      held = (λ i lt. held_one i lt (cases_eq i slot));
      fit = (λ key k i p lt is. fit_one key k i p lt is (cases_eq i slot));
    }

  -- the block of the track is the proxy's
  module _ (b : Made) (is : b ≡ slice_index_or blocks track b) where
    here_is : server_made s.pass ≡ b
    here_is = sym (get_or_from_slice_get blocks track (server_made s.pass) b held_fits.made) ∙ sym is

    pub held_of : IsServerOf b s
    held_of = (here_is, held_fits.in_order)

    pub order_of : (t : ServerState) → IsServerOf b t → InOrder stream_fits (record o { items = slice_set o.items slot (Some t) })
    order_of t of = order_held t (record { made = held_fits.made ∙ ap (λ (m : Made). Some m) (here_is ∙ sym of.0); in_order = of.1 })
