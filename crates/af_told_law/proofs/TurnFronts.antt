-- If each front that a server saw in a turn of the normal mixer is its own, the fronts of its looks are those told, by the rule of a journal and by that of a lawful block.
use Rattle.std.proofs.Common.{◌≡◌, inl, inr, ℕ, ◌==◌, ◌&&◌, not, Bool, true, false, true≢false, if◌then◌else◌, is_some, fold, List, [], ◌∷◌, ◌++◌, Option, Some, None, refl, sym, ap, ◌∙◌, subst, eqb-true}
use Rattle.af_told_law.proofs.Common.{AllByRecursion, AllSeeOwn, CommandLook, LegalLooks, LegalTake, Listed, LooksBy, MatchOption, Outside, ServerEvent, ServerKept, Setup, Shape, SlotEntry, TakeSeen, TrackKept, Turn, events_behind_look, all_command_events, as_slot, asked, command_events, command_list, cycle_events, did, flat_map, fold-append, front_by_answer, front_of, fronts_by, heard, invalid, is_found_shut, is_home, is_own_inside, kept, lawful_front, learnt, leaves_open, look_at, look_events, mix_events, own_front, server_begins, server_keeps, status_events, stream_list, takes_command, takes_from, track_at, track_in}
use Rattle.af_base.specs.declared.event.ServerEvent.TheVariants as server
use Rattle.af_base.specs.declared.seen.Seen.TheVariants as seen
use Rattle.af_told_law.proofs.Outsides.{LooksTold, SameFront, SameFronts, TakeTold}
use Rattle.af_told_law.proofs.OwnFronts.{own_told}
use Rattle.af_told_law.proofs.LegalAlike.{command_same}
use Rattle.af_told_law.proofs.MixLooks.{own_split}
use Rattle.af_told_law.specs.Deeds.{SawOwnOf}

-- ## One look

-- if the answer doesn't leave the front open, both rules tell the same
closed_told : (asked : ℕ) (s : Listed) (slot : SlotEntry) → leaves_open s.shape asked slot.seen ≡ false → front_of asked s slot ≡ lawful_front asked s slot
closed_told asked s slot closed =
    ap (λ (b : Bool). if b && is_own_inside s slot.rear then own_front s.shape (kept s) else front_by_answer s.shape slot) closed
    ∙ sym (ap (λ (b : Bool). if b then own_front s.shape (kept s) else front_by_answer s.shape slot) closed)

-- a look that saw its server's own front, if it was made, saw the one told
pub look_told : (asked : ℕ) (s : Listed) (slot : SlotEntry) (f : ℕ) → LooksBy asked s slot f → (is_some (kept s).shut ≡ false → f ≡ own_front s.shape (kept s))
    → SameFront s f (front_of asked s slot) × (front_of asked s slot ≡ lawful_front asked s slot)
look_told asked s slot f looks own = by_shut (kept s).shut own looks.1
  where
    by_shut : (o : Option (ℕ × ℕ)) → (is_some o ≡ false → f ≡ own_front s.shape (kept s))
        → MatchOption o (slot.seen ≡ look_at s.shape (kept s).flush asked slot.flush slot.rear f) (λ words. (slot.seen ≡ seen.Shut words.0 words.1) × (slot.flush ≡ (kept s).flush) × (slot.rear ≡ words.1))
        → (is_some o ≡ false → f ≡ front_of asked s slot) × (front_of asked s slot ≡ lawful_front asked s slot)
    by_shut None own answers = let told = own_told asked s slot f answers (own refl) in ((λ e. sym told.0), told.0 ∙ sym told.1)
    by_shut (Some words) own answers = ((λ e. absurd (true≢false e)), closed_told asked s slot (ap (leaves_open s.shape asked) answers.0))

-- ## The looks at a command block

command_own : (s : Listed) (look : CommandLook) (f : ℕ) → AllSeeOwn s.shape (kept s) (command_events s look f) → is_some (kept s).shut ≡ false → f ≡ own_front s.shape (kept s)
command_own s look f own = by_shut (is_some (kept s).shut) own
  where
    by_shut : (b : Bool) → AllSeeOwn s.shape (kept s) ((if b then [] else look_events look.seen look.flush look.rear f) ++ takes_command look) → b ≡ false → f ≡ own_front s.shape (kept s)
    by_shut true own is = absurd (true≢false is)
    by_shut false own is = own.1.1.0

pub looks_told : (s : Listed) (looks : List CommandLook) (fs : List ℕ) → LegalLooks s looks fs → AllSeeOwn s.shape (kept s) (all_command_events s looks fs)
    → LooksTold s looks fs
looks_told s [] [] legal own = (tt, refl)
looks_told s [] (f ∷ fs) legal own = elim legal [ ]
looks_told s (look ∷ looks) [] legal own = elim legal [ ]
looks_told s (look ∷ looks) (f ∷ fs) legal own =
    let es : List ServerEvent = command_events s look f in
    let parts = own_split s.shape (kept s) es (all_command_events (did s es) looks fs) own in
    let one = look_told 2 s (as_slot look) f legal.0 (command_own s look f parts.0) in
    let after : fold (server_keeps s.shape) (kept s) es ≡ kept (did s es) = sym (fold-append (server_keeps s.shape) (server_begins s.shape) s.events es) in
    let rest = looks_told (did s es) looks fs legal.2 (subst (λ (k : ServerKept). AllSeeOwn s.shape k (all_command_events (did s es) looks fs)) after parts.1) in
    let same : es ≡ command_events s look (front_of 2 s (as_slot look)) = command_same s f (front_of 2 s (as_slot look)) one.0 look in
    let later : fronts_by front_of (did s (command_events s look (front_of 2 s (as_slot look)))) looks ≡ fronts_by lawful_front (did s (command_events s look (lawful_front 2 s (as_slot look)))) looks =
    ap (λ (xs : List ServerEvent). fronts_by front_of (did s xs) looks) (sym same) ∙ rest.1 ∙ ap (λ (xs : List ServerEvent). fronts_by lawful_front (did s xs) looks) (same ∙ ap (command_events s look) one.1) in
    ((one.0, subst (λ (xs : List ServerEvent). SameFronts (did s es) looks fs (fronts_by front_of (did s xs) looks)) same rest.0), (λ j. one.1 j ∷ later j))

-- ## The look for a buffer

cycle_own : (many : ℕ) (s : Listed) (slot : SlotEntry) (f : ℕ) → AllSeeOwn s.shape (kept s) (cycle_events many s slot f) → is_some (kept s).shut ≡ false → f ≡ own_front s.shape (kept s)
cycle_own many s slot f own = by_shut (is_some (kept s).shut) own
  where
    by_shut : (b : Bool) → AllSeeOwn s.shape (kept s) (server.SawGain slot.gains ∷ (if b then [] else look_events slot.seen slot.flush slot.rear f) ++ events_behind_look many b slot.seen) → b ≡ false → f ≡ own_front s.shape (kept s)
    by_shut true own is = absurd (true≢false is)
    by_shut false own is = own.1.1.1.0

takes_told : (c : Setup) (s : Listed) (f : ℕ) (takes : List TakeSeen) → AllByRecursion (λ (take : TakeSeen). LooksBy (asked c) s take.slot f) takes → AllSeeOwn s.shape (kept s) (flat_map (λ (take : TakeSeen). cycle_events (asked c) s take.slot f) takes) → TakeTold c s f takes
takes_told c s f [] legal own = (inl refl, refl)
takes_told c s f (take ∷ takes) legal own =
    let parts = own_split s.shape (kept s) (cycle_events (asked c) s take.slot f) (flat_map (λ (take : TakeSeen). cycle_events (asked c) s take.slot f) takes) own in
    let one = look_told (asked c) s take.slot f legal.0 (cycle_own (asked c) s take.slot f parts.0) in
    (inr one.0, one.1)

-- the takes of a track looked at its stream
pub taken_looks : (c : Setup) (o : Outside) (i : ℕ) (takes : List TakeSeen) → AllByRecursion (LegalTake c o) takes → AllByRecursion (λ (take : TakeSeen). LooksBy (asked c) (o.streams i) take.slot (o.stream_front i)) (takes_from takes i)
taken_looks c o i [] legal = tt
taken_looks c o i (take ∷ takes) legal = by_track (take.track == i) refl (taken_looks c o i takes legal.1)
  where
    Looked : List TakeSeen → Type 0
    Looked takes = AllByRecursion (λ (take : TakeSeen). LooksBy (asked c) (o.streams i) take.slot (o.stream_front i)) takes

    by_track : (b : Bool) → (take.track == i) ≡ b → Looked (takes_from takes i) → Looked (if b then take ∷ takes_from takes i else takes_from takes i)
    by_track true is rest = (subst (λ (n : ℕ). LooksBy (asked c) (o.streams n) take.slot (o.stream_front n)) (eqb-true take.track i is) legal.0.looks, rest)
    by_track false is rest = rest

-- ## The proxies after the turn

module _ (c : Setup) (o : Outside) (e : Turn) (tracks : List TrackKept) (i : ℕ) (runs : e.ended ≡ false) where
  -- the front of a stream that is home, or was lent, is told
  pub stream_told : SawOwnOf (o.streams i).shape ((o.streams i).events ++ stream_list c o e tracks i) → AllByRecursion (LegalTake c o) e.mixes → TakeTold c (o.streams i) (o.stream_front i) (takes_from e.mixes i)
  stream_told own legal =
      let s : Listed = o.streams i in
      let track : TrackKept = track_at tracks i in
      let found : Bool = not track.life.ended && is_found_shut (heard (learnt o) i track) (track_in e i).looks in
      let flags : List ServerEvent = if is_home track.holder then (if found then server.SetFlags 4 ∷ [] else []) else [] in
      let list : stream_list c o e tracks i ≡ flags ++ mix_events c o e.mixes i = ap (λ (b : Bool). if b then [] else flags ++ mix_events c o e.mixes i) runs in
      let all : AllSeeOwn s.shape (kept s) (flags ++ mix_events c o e.mixes i) = (own_split s.shape (server_begins s.shape) s.events (flags ++ mix_events c o e.mixes i) (subst (λ (es : List ServerEvent). SawOwnOf s.shape (s.events ++ es)) list own)).1 in
      let parts = own_split s.shape (kept s) flags (mix_events c o e.mixes i) all in
      takes_told c s (o.stream_front i) (takes_from e.mixes i) (taken_looks c o i e.mixes legal)
      (subst (λ (k : ServerKept). AllSeeOwn s.shape k (mix_events c o e.mixes i)) (flags_keep s.shape (kept s) (is_home track.holder) found) parts.1)
    where
      flags_keep : (shape : Shape) (now : ServerKept) (a b : Bool) → fold (server_keeps shape) now (if a then (if b then server.SetFlags 4 ∷ [] else []) else []) ≡ now
      flags_keep shape now true true = refl
      flags_keep shape now true false = refl
      flags_keep shape now false b = refl

  -- the fronts of the looks at a command block are told
  pub commands_told : SawOwnOf (o.commands i).shape ((o.commands i).events ++ command_list c o e tracks i) → LegalLooks (o.commands i) (track_in e i).looks (o.command_fronts i) → LooksTold (o.commands i) (track_in e i).looks (o.command_fronts i)
  commands_told own legal =
      let s : Listed = o.commands i in
      let looks : List CommandLook = (track_in e i).looks in
      let first : List ServerEvent = all_command_events s looks (o.command_fronts i) in
      let flags : List ServerEvent = invalid (learnt o) (track_in e i) tracks i in
      let status : List ServerEvent = status_events (track_in e i).status in
      let list : command_list c o e tracks i ≡ first ++ flags ++ status = ap (λ (b : Bool). if b then [] else first ++ flags ++ status) runs in
      let all : AllSeeOwn s.shape (kept s) (first ++ flags ++ status) = (own_split s.shape (server_begins s.shape) s.events (first ++ flags ++ status) (subst (λ (es : List ServerEvent). SawOwnOf s.shape (s.events ++ es)) list own)).1 in
      let some : AllSeeOwn s.shape (kept s) (first ++ flags) = (own_split s.shape (kept s) (first ++ flags) status all).0 in
      looks_told s looks (o.command_fronts i) legal (own_split s.shape (kept s) first flags some).0
