-- A turn of the normal mixer is noted in a track's blocks on its mixers' sides, whatever its client did, as the run tells it.
use Rattle.std.proofs.Common.{◌≡◌, ℕ, ◌&&◌, Bool, true, false, fold, map, refl, ap, ◌∙◌, subst, List, [], ◌∷◌, Option, Some, None}
use Rattle.af_judge.proofs.Common.{BlockTold, ClientEvent, CommandLook, IsOpenTurn, Learnt, NormalKept, Setup, TakeSeen, TrackKept, Turn, TurnFound, after_ack, asked, client_list, commands_turned, heard, is_home, learnt, outside_of, packed_word, stream_turned, takes_from, track_at, track_in}
use Rattle.af_judge.specs.declared.track_judge.TrackJudge.{TrackJudge}
use Rattle.af_judge.specs.Blocks.{BlockJudged, IsBlockOf, commanded_told, played_told}
use Rattle.af_judge.specs.NormalTold.{disabled_told, is_shut_now, looks_told, shut_told, status_told}
use Rattle.af_judge.specs.RunTold.{IsServedBlock}
use Rattle.af_judge.proofs.ServedSteps.{served_beside, served_of, shadow, shadow_of}
use Rattle.af_judge.proofs.TurnedTracks.{commands_so, stream_so}

-- a block with another client's side
abbrev beside : List ClientEvent → List ℕ → BlockJudged → BlockJudged
beside client released j = record j { client = client; released = released }

-- the takes of a track
abbrev takes_told : ℕ → List TakeSeen → BlockJudged → BlockJudged
takes_told asked takes j = fold (λ (x : BlockJudged) (take : TakeSeen). played_told asked take.slot (map packed_word take.frames) x) j takes

-- ## What is told doesn't depend on the client's side

module _ (client : List ClientEvent) (released : List ℕ) where
  looks_beside : (looks : List CommandLook) (j : BlockJudged) → looks_told looks (beside client released j) ≡ beside client released (looks_told looks j)
  looks_beside [] j = refl
  looks_beside (look ∷ looks) j = looks_beside looks (commanded_told look j)

  shut_beside : (shut : Bool) (j : BlockJudged) → shut_told shut (beside client released j) ≡ beside client released (shut_told shut j)
  shut_beside true j = refl
  shut_beside false j = refl

  status_beside : (status : Option ℕ) (j : BlockJudged) → status_told status (beside client released j) ≡ beside client released (status_told status j)
  status_beside None j = refl
  status_beside (Some word) j = refl

  disabled_beside : (disabled : Bool) (j : BlockJudged) → disabled_told disabled (beside client released j) ≡ beside client released (disabled_told disabled j)
  disabled_beside true j = refl
  disabled_beside false j = refl

  takes_beside : (asked : ℕ) (takes : List TakeSeen) (j : BlockJudged) → takes_told asked takes (beside client released j) ≡ beside client released (takes_told asked takes j)
  takes_beside asked [] j = refl
  takes_beside asked (take ∷ takes) j = takes_beside asked takes (played_told asked take.slot (map packed_word take.frames) j)

-- ## Nor does the mark change

looks_lawful : (looks : List CommandLook) (j : BlockJudged) → (looks_told looks j).lawful ≡ j.lawful
looks_lawful [] j = refl
looks_lawful (look ∷ looks) j = looks_lawful looks (commanded_told look j)

shut_lawful : (shut : Bool) (j : BlockJudged) → (shut_told shut j).lawful ≡ j.lawful
shut_lawful true j = refl
shut_lawful false j = refl

status_lawful : (status : Option ℕ) (j : BlockJudged) → (status_told status j).lawful ≡ j.lawful
status_lawful None j = refl
status_lawful (Some word) j = refl

disabled_lawful : (disabled : Bool) (j : BlockJudged) → (disabled_told disabled j).lawful ≡ j.lawful
disabled_lawful true j = refl
disabled_lawful false j = refl

takes_lawful : (asked : ℕ) (takes : List TakeSeen) (j : BlockJudged) → (takes_told asked takes j).lawful ≡ j.lawful
takes_lawful asked [] j = refl
takes_lawful asked (take ∷ takes) j = takes_lawful asked takes (played_told asked take.slot (map packed_word take.frames) j)

-- ## A track

module _ (c : Setup) (f : TurnFound) (m : NormalKept) (e : Turn) (open_is : e.ended ≡ false) (i : ℕ) where
  abbrev k : Learnt
  k = learnt (outside_of c f e)

  abbrev found : TrackKept
  found = track_at (after_ack e.ack m).tracks i

  abbrev shut : Bool
  shut = is_shut_now found (heard k i found) (track_in e i)

  -- the blocks of a track with what the turn did noted
  abbrev pub commands_after : BlockJudged → BlockJudged
  commands_after j = status_told (track_in e i).status (shut_told shut (looks_told (track_in e i).looks j))

  abbrev pub stream_after : BlockJudged → BlockJudged
  stream_after j = takes_told (asked c) (takes_from e.mixes i) (shut_told (shut && is_home found.holder) (disabled_told (track_in e i).disabled j))

  commands_aside : (client : List ClientEvent) (released : List ℕ) (j : BlockJudged) → commands_after (beside client released j) ≡ beside client released (commands_after j)
  commands_aside client released j =
      ap (λ (x : BlockJudged). status_told (track_in e i).status (shut_told shut x)) (looks_beside client released (track_in e i).looks j)
      ∙ ap (status_told (track_in e i).status) (shut_beside client released shut (looks_told (track_in e i).looks j))
      ∙ status_beside client released (track_in e i).status (shut_told shut (looks_told (track_in e i).looks j))

  stream_aside : (client : List ClientEvent) (released : List ℕ) (j : BlockJudged) → stream_after (beside client released j) ≡ beside client released (stream_after j)
  stream_aside client released j =
      ap (λ (x : BlockJudged). takes_told (asked c) (takes_from e.mixes i) (shut_told (shut && is_home found.holder) x)) (disabled_beside client released (track_in e i).disabled j)
      ∙ ap (takes_told (asked c) (takes_from e.mixes i)) (shut_beside client released (shut && is_home found.holder) (disabled_told (track_in e i).disabled j))
      ∙ takes_beside client released (asked c) (takes_from e.mixes i) (shut_told (shut && is_home found.holder) (disabled_told (track_in e i).disabled j))

  pub commands_served : (t : TrackJudge) → IsServedBlock t.commands (f.commands i) → IsServedBlock (commands_after t.commands) (commands_turned c (outside_of c f e) m e i (f.commands i))
  commands_served t h =
      let b : BlockTold = f.commands i in
      let after : BlockTold = commands_turned c (outside_of c f e) m e i b in
      let whole = commands_so c f m e open_is i (record t { commands = shadow t.commands b }) (shadow_of t.commands b h) in
      let there : IsBlockOf (beside (client_list b) b.released (commands_after t.commands)) after = subst (λ (x : BlockJudged). IsBlockOf x after) (commands_aside (client_list b) b.released t.commands) whole in
      served_beside (beside (client_list b) b.released (commands_after t.commands)) (commands_after t.commands) after refl (served_of (beside (client_list b) b.released (commands_after t.commands)) after there)

  pub stream_served : (t : TrackJudge) → IsServedBlock t.stream (f.streams i) → (tracks : ℕ) → IsOpenTurn tracks e → IsServedBlock (stream_after t.stream) (stream_turned c (outside_of c f e) m e i (f.streams i))
  stream_served t h tracks form =
      let b : BlockTold = f.streams i in
      let after : BlockTold = stream_turned c (outside_of c f e) m e i b in
      let whole = stream_so c f m e open_is i (record t { stream = shadow t.stream b }) (shadow_of t.stream b h) tracks form in
      let there : IsBlockOf (beside (client_list b) b.released (stream_after t.stream)) after = subst (λ (x : BlockJudged). IsBlockOf x after) (stream_aside (client_list b) b.released t.stream) whole in
      served_beside (beside (client_list b) b.released (stream_after t.stream)) (stream_after t.stream) after refl (served_of (beside (client_list b) b.released (stream_after t.stream)) after there)

  pub commands_mark : (j : BlockJudged) → (commands_after j).lawful ≡ j.lawful
  commands_mark j = status_lawful (track_in e i).status (shut_told shut (looks_told (track_in e i).looks j)) ∙ shut_lawful shut (looks_told (track_in e i).looks j) ∙ looks_lawful (track_in e i).looks j

  pub stream_mark : (j : BlockJudged) → (stream_after j).lawful ≡ j.lawful
  stream_mark j = takes_lawful (asked c) (takes_from e.mixes i) (shut_told (shut && is_home found.holder) (disabled_told (track_in e i).disabled j))
      ∙ shut_lawful (shut && is_home found.holder) (disabled_told (track_in e i).disabled j) ∙ disabled_lawful (track_in e i).disabled j
