-- What a track's table is read as: the first fault of its places, or the track that it means.
use Rattle.std.proofs.Common.{◌≡◌, ℕ, ◌+◌, ◌==◌, Bool, List, ◌∷◌, length, map, Option, Result, Ok, ap, ◌∙◌, codes}
use Rattle.af_script.proofs.Common.{Items, Members, as_str, as_table, bytes_eq}
use Rattle.af_script.specs.Bounds.{most_buffer, most_base, unity_scale, most_ops}
use Rattle.af_script.specs.Ops.{or_else, closed}
use Rattle.af_script.specs.Tree.{value_at, all_keys, is_track_key}
use Rattle.af_script.specs.Results.{◌>>=◌}
use Rattle.af_script.specs.Reading.{fast_in, number_in, shape_in, name_in, op_items, number_or, ops_in, track_of_table, track_item, track_if}
use Rattle.af_script.specs.Meaning.{number_of, text_of, items_of, texts_of, buffer_of, track_meant, op_meant, picked}
use Rattle.af_script.specs.Places.{Place, number, number_or_none, kind, name, texts, entry_fault, at, bound, track_places, ops_places}
use Rattle.af_script.specs.declared.track.Shape.{Shape}
use Rattle.af_script.specs.declared.track.TrackSpec.{TrackSpec}
use Rattle.af_script.specs.declared.fault.ScriptFault.{ScriptFault}
use Rattle.af_script.specs.declared.fault.ScriptFault.TheVariants as fault
use Rattle.af_script.specs.declared.fault.KeyId.TheVariants as key
use Rattle.af_script.specs.declared.fault.LimitId.TheVariants as limit
use Rattle.af_script.proofs.First.{first_of, judged, or_else-assoc, bind, bind_ok, behind}
use Rattle.af_script.proofs.Entries.{number-tied, number_or-tied, kind-tied, name-tied, texts-tied, texts-all}
use Rattle.af_script.proofs.Items.{ops-tied, IsTied}

abbrev shape_meant : Members → Shape
shape_meant tree = record { fast = bytes_eq (text_of (value_at key.Kind tree)) (codes "fast"); frames = buffer_of tree; mono = number_of 0 (value_at key.Channels tree) == 1 }

-- the places of the kind, the frames and the channels
abbrev kind_fault : ℕ → Members → Option ScriptFault
kind_fault t tree = entry_fault t key.Kind kind (value_at key.Kind tree)

abbrev frames_fault : ℕ → Members → Option ScriptFault
frames_fault t tree = entry_fault t key.Frames (number 1 most_buffer) (value_at key.Frames tree)

abbrev channels_fault : ℕ → Members → Option ScriptFault
channels_fault t tree = entry_fault t key.Channels (number 1 2) (value_at key.Channels tree)

shape-tied : (t : ℕ) (tree : Members) → shape_in t tree ≡ judged (or_else (kind_fault t tree) (or_else (frames_fault t tree) (channels_fault t tree))) (shape_meant tree)
shape-tied t tree =
    let fast : Bool = bytes_eq (text_of (value_at key.Kind tree)) (codes "fast") in
    let frames : ℕ = buffer_of tree in
    bind (fast_in t tree) (kind_fault t tree) (or_else (frames_fault t tree) (channels_fault t tree)) fast (shape_meant tree)
    (λ fast'. number_in t key.Frames 1 most_buffer tree >>= (λ frames'. number_in t key.Channels 1 2 tree >>= (λ channels.
    Ok (record { fast = fast'; frames = frames'; mono = channels == 1 }))))
    (kind-tied t (value_at key.Kind tree))
    (λ none. bind (number_in t key.Frames 1 most_buffer tree) (frames_fault t tree) (channels_fault t tree) frames (shape_meant tree)
    (λ frames'. number_in t key.Channels 1 2 tree >>= (λ channels. Ok (record { fast = fast; frames = frames'; mono = channels == 1 })))
    (number-tied t key.Frames 1 most_buffer 0 (value_at key.Frames tree))
    (λ none'. bind_ok (number_in t key.Channels 1 2 tree) (channels_fault t tree) (number_of 0 (value_at key.Channels tree))
    (λ channels. record { fast = fast; frames = frames; mono = channels == 1 })
    (number-tied t key.Channels 1 2 0 (value_at key.Channels tree))))

or_else-three : (a b c q : Option ScriptFault) → or_else (or_else a (or_else b c)) q ≡ or_else a (or_else b (or_else c q))
or_else-three a b c q = or_else-assoc a (or_else b c) q ∙ ap (or_else a) (or_else-assoc b c q)

-- what follows the shape of a track
abbrev after_shape : ℕ → Members → Shape → Result TrackSpec ScriptFault
after_shape i tree shape =
    name_in (i + 1) tree >>= (λ file. op_items (i + 1) tree >>= (λ items.
    number_or (i + 1) key.Base most_base 0 tree >>= (λ base. number_or (i + 1) key.Scale unity_scale unity_scale tree >>= (λ scale.
    ops_in i shape.frames items >>= (λ ops. Ok (record {
      fast = shape.fast;
      frames = shape.frames;
      mono = shape.mono;
      base = base;
      scale = scale;
      file = file;
      ops = ops;
    }))))))

abbrev later_places : ℕ → Members → List Place
later_places i tree =
    at (i + 1) key.File name tree ∷ at (i + 1) key.Ops texts tree
    ∷ at (i + 1) key.Base (number_or_none 0 most_base) tree ∷ at (i + 1) key.Scale (number_or_none 0 unity_scale) tree
    ∷ bound limit.Ops most_ops (length (texts_of (value_at key.Ops tree)))
    ∷ ops_places i (buffer_of tree) (texts_of (value_at key.Ops tree))

abbrev ops_after : ℕ → Members → List Place
ops_after i tree = bound limit.Ops most_ops (length (texts_of (value_at key.Ops tree))) ∷ ops_places i (buffer_of tree) (texts_of (value_at key.Ops tree))

after_shape-tied : (i : ℕ) (tree : Members) → after_shape i tree (shape_meant tree) ≡ judged (first_of (later_places i tree)) (track_meant tree)
after_shape-tied i tree =
    let shape : Shape = shape_meant tree in
    let t : ℕ = i + 1 in
    let items : Items = items_of (value_at key.Ops tree) in
    let file : List ℕ = text_of (value_at key.File tree) in
    let base : ℕ = number_of 0 (value_at key.Base tree) in
    let scale : ℕ = number_of unity_scale (value_at key.Scale tree) in
    let f_ops : Option ScriptFault = entry_fault t key.Ops texts (value_at key.Ops tree) in
    let f_base : Option ScriptFault = entry_fault t key.Base (number_or_none 0 most_base) (value_at key.Base tree) in
    let f_scale : Option ScriptFault = entry_fault t key.Scale (number_or_none 0 unity_scale) (value_at key.Scale tree) in
    let f_last : Option ScriptFault = first_of (ops_after i tree) in
    bind (name_in t tree) (entry_fault t key.File name (value_at key.File tree)) (or_else f_ops (or_else f_base (or_else f_scale f_last))) file (track_meant tree)
    (λ file'. op_items t tree >>= (λ items'. number_or t key.Base most_base 0 tree >>= (λ base'. number_or t key.Scale unity_scale unity_scale tree >>= (λ scale'.
    ops_in i shape.frames items' >>= (λ ops. Ok (record { fast = shape.fast; frames = shape.frames; mono = shape.mono; base = base'; scale = scale'; file = file'; ops = ops }))))))
    (name-tied t (value_at key.File tree))
    (λ none. bind (op_items t tree) f_ops (or_else f_base (or_else f_scale f_last)) items (track_meant tree)
    (λ items'. number_or t key.Base most_base 0 tree >>= (λ base'. number_or t key.Scale unity_scale unity_scale tree >>= (λ scale'.
    ops_in i shape.frames items' >>= (λ ops. Ok (record { fast = shape.fast; frames = shape.frames; mono = shape.mono; base = base'; scale = scale'; file = file; ops = ops })))))
    (texts-tied t (value_at key.Ops tree))
    (λ all. bind (number_or t key.Base most_base 0 tree) f_base (or_else f_scale f_last) base (track_meant tree)
    (λ base'. number_or t key.Scale unity_scale unity_scale tree >>= (λ scale'.
    ops_in i shape.frames items >>= (λ ops. Ok (record { fast = shape.fast; frames = shape.frames; mono = shape.mono; base = base'; scale = scale'; file = file; ops = ops }))))
    (number_or-tied t key.Base most_base 0 (value_at key.Base tree))
    (λ none''. bind (number_or t key.Scale unity_scale unity_scale tree) f_scale f_last scale (track_meant tree)
    (λ scale'. ops_in i shape.frames items >>= (λ ops. Ok (record { fast = shape.fast; frames = shape.frames; mono = shape.mono; base = base; scale = scale'; file = file; ops = ops })))
    (number_or-tied t key.Scale unity_scale unity_scale (value_at key.Scale tree))
    (λ none'''. bind_ok (ops_in i shape.frames items) f_last (closed (map (op_meant (buffer_of tree)) (picked as_str items)))
    (λ ops. record { fast = shape.fast; frames = shape.frames; mono = shape.mono; base = base; scale = scale; file = file; ops = ops })
    (ops-tied i (buffer_of tree) items (texts-all t (value_at key.Ops tree) all))))))

pub track_in-tied : (i : ℕ) (tree : Members) → track_of_table i tree ≡ judged (first_of (track_places i tree)) (track_meant tree)
track_in-tied i tree =
    let t : ℕ = i + 1 in
    let first : Option ScriptFault = or_else (kind_fault t tree) (or_else (frames_fault t tree) (channels_fault t tree)) in
    let later : Option ScriptFault = first_of (later_places i tree) in
    behind (all_keys is_track_key tree) (fault.Unknown t) (shape_in t tree >>= after_shape i tree) (or_else (kind_fault t tree) (or_else (frames_fault t tree) (or_else (channels_fault t tree) later))) (track_meant tree)
    (bind (shape_in t tree) first later (shape_meant tree) (track_meant tree) (after_shape i tree) (shape-tied t tree) (λ none. after_shape-tied i tree)
    ∙ ap (λ p. judged p (track_meant tree)) (or_else-three (kind_fault t tree) (frames_fault t tree) (channels_fault t tree) later))

pub track_item-tied : IsTied as_table track_item track_places track_meant
track_item-tied i d tree is = ap (track_if i) is ∙ track_in-tied i tree
