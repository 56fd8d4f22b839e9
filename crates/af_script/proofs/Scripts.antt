-- What a script's table is read as: the first fault of its places, or the script that it means.
use Rattle.std.proofs.Common.{◌≡◌, ℕ, ◌*◌, nat_le, true, List, ◌∷◌, ◌++◌, length, Option, Ok, sym, ap, ◌∙◌}
use Rattle.af_script.proofs.Common.{Items, Members, as_str, as_table}
use Rattle.af_script.specs.Bounds.{most_version, most_frames, most_normal, most_cycles, most_product, most_tracks}
use Rattle.af_script.specs.Ops.{or_else}
use Rattle.af_script.specs.Tree.{value_at, all_keys, is_top_key, all_are}
use Rattle.af_script.specs.Results.{◌>>=◌}
use Rattle.af_script.specs.Reading.{number_in, top_numbers, track_items, turn_items, each_in, track_item, turns_in, parts_in, script_in}
use Rattle.af_script.specs.Meaning.{number_of, items_of, tables_of, buffer_of, track_meant, tracks_meant, turns_meant, script_meant}
use Rattle.af_script.specs.Places.{Place, number, tables, texts_or_none, entry_fault, bound, each_place, track_places, turns_places, places}
use Rattle.af_script.specs.declared.op.TurnSpec.{TurnSpec}
use Rattle.af_script.specs.declared.track.TrackSpec.{TrackSpec}
use Rattle.af_script.specs.declared.script.TopNumbers.{TopNumbers}
use Rattle.af_script.specs.declared.fault.ScriptFault.{ScriptFault}
use Rattle.af_script.specs.declared.fault.ScriptFault.TheVariants as fault
use Rattle.af_script.specs.declared.fault.KeyId.TheVariants as key
use Rattle.af_script.specs.declared.fault.LimitId.TheVariants as limit
use Rattle.af_script.proofs.First.{first_of, judged, or_else-assoc, first_of-append, bind, bind_ok, behind}
use Rattle.af_script.proofs.Entries.{number-tied, tables-tied, tables-all, turns-tied, turns-all}
use Rattle.af_script.proofs.Items.{each-tied, turns_in-tied}
use Rattle.af_script.proofs.Tracks.{track_item-tied}

abbrev top_meant : Members → TopNumbers
top_meant tree = record {
  version = number_of 0 (value_at key.Version tree);
  frames = buffer_of tree;
  normal = number_of 0 (value_at key.Normal tree);
  cycles = number_of 0 (value_at key.Cycles tree);
}

abbrev version_fault : Members → Option ScriptFault
version_fault tree = entry_fault 0 key.Version (number 1 most_version) (value_at key.Version tree)

abbrev frames_fault : Members → Option ScriptFault
frames_fault tree = entry_fault 0 key.Frames (number 1 most_frames) (value_at key.Frames tree)

abbrev normal_fault : Members → Option ScriptFault
normal_fault tree = entry_fault 0 key.Normal (number 1 most_normal) (value_at key.Normal tree)

abbrev cycles_fault : Members → Option ScriptFault
cycles_fault tree = entry_fault 0 key.Cycles (number 1 most_cycles) (value_at key.Cycles tree)

top-tied : (tree : Members) → top_numbers tree ≡ judged (or_else (version_fault tree) (or_else (frames_fault tree) (or_else (normal_fault tree) (cycles_fault tree)))) (top_meant tree)
top-tied tree =
    let v : ℕ = number_of 0 (value_at key.Version tree) in
    let f : ℕ = buffer_of tree in
    let n : ℕ = number_of 0 (value_at key.Normal tree) in
    bind (number_in 0 key.Version 1 most_version tree) (version_fault tree) (or_else (frames_fault tree) (or_else (normal_fault tree) (cycles_fault tree))) v (top_meant tree)
    (λ v'. number_in 0 key.Frames 1 most_frames tree >>= (λ f'. number_in 0 key.Normal 1 most_normal tree >>= (λ n'. number_in 0 key.Cycles 1 most_cycles tree >>= (λ c'.
    Ok (record { version = v'; frames = f'; normal = n'; cycles = c' })))))
    (number-tied 0 key.Version 1 most_version 0 (value_at key.Version tree))
    (λ none. bind (number_in 0 key.Frames 1 most_frames tree) (frames_fault tree) (or_else (normal_fault tree) (cycles_fault tree)) f (top_meant tree)
    (λ f'. number_in 0 key.Normal 1 most_normal tree >>= (λ n'. number_in 0 key.Cycles 1 most_cycles tree >>= (λ c'.
    Ok (record { version = v; frames = f'; normal = n'; cycles = c' }))))
    (number-tied 0 key.Frames 1 most_frames 0 (value_at key.Frames tree))
    (λ none'. bind (number_in 0 key.Normal 1 most_normal tree) (normal_fault tree) (cycles_fault tree) n (top_meant tree)
    (λ n'. number_in 0 key.Cycles 1 most_cycles tree >>= (λ c'. Ok (record { version = v; frames = f; normal = n'; cycles = c' })))
    (number-tied 0 key.Normal 1 most_normal 0 (value_at key.Normal tree))
    (λ none''. bind_ok (number_in 0 key.Cycles 1 most_cycles tree) (cycles_fault tree) (number_of 0 (value_at key.Cycles tree))
    (λ c'. record { version = v; frames = f; normal = n; cycles = c' })
    (number-tied 0 key.Cycles 1 most_cycles 0 (value_at key.Cycles tree)))))

or_else-four : (a b c d q : Option ScriptFault) → or_else (or_else a (or_else b (or_else c d))) q ≡ or_else a (or_else b (or_else c (or_else d q)))
or_else-four a b c d q =
    or_else-assoc a (or_else b (or_else c d)) q ∙ ap (or_else a) (or_else-assoc b (or_else c d) q ∙ ap (or_else b) (or_else-assoc c d q))

-- the places of the tracks and turns
abbrev part_places : Members → List Place
part_places tree = each_place track_places 0 (tables_of (value_at key.Track tree)) ++ turns_places (length (tracks_meant tree)) tree

parts-tied : (tree : Members) → all_are as_table (items_of (value_at key.Track tree)) ≡ true → all_are as_str (items_of (value_at key.Turns tree)) ≡ true → parts_in (top_meant tree) (items_of (value_at key.Track tree)) (items_of (value_at key.Turns tree)) ≡ judged (first_of (bound limit.Product most_product (number_of 0 (value_at key.Cycles tree) * buffer_of tree) ∷ part_places tree)) (script_meant tree)
parts-tied tree tracks_all turns_all =
    let top : TopNumbers = top_meant tree in
    let track_values : Items = items_of (value_at key.Track tree) in
    let turn_values : Items = items_of (value_at key.Turns tree) in
    let specs : List TrackSpec = tracks_meant tree in
    let turns : List TurnSpec = turns_meant (length specs) tree in
    let each : List Place = each_place track_places 0 (tables_of (value_at key.Track tree)) in
    let last : List Place = turns_places (length specs) tree in
    behind (nat_le (top.cycles * top.frames) most_product) (fault.Limit limit.Product (top.cycles * top.frames))
    (each_in track_item 0 track_values >>= (λ tracks'. turns_in (length tracks') top.cycles turn_values >>= (λ turns'.
    Ok (record { version = top.version; frames = top.frames; normal = top.normal; cycles = top.cycles; tracks = tracks'; turns = turns' }))))
    (first_of (part_places tree)) (script_meant tree)
    (bind (each_in track_item 0 track_values) (first_of each) (first_of last) specs (script_meant tree)
    (λ tracks'. turns_in (length tracks') top.cycles turn_values >>= (λ turns'.
    Ok (record { version = top.version; frames = top.frames; normal = top.normal; cycles = top.cycles; tracks = tracks'; turns = turns' })))
    (each-tied as_table track_item track_places track_meant track_item-tied 0 track_values tracks_all)
    (λ none. bind_ok (turns_in (length specs) top.cycles turn_values) (first_of last) turns
    (λ turns'. record { version = top.version; frames = top.frames; normal = top.normal; cycles = top.cycles; tracks = specs; turns = turns' })
    (turns_in-tied (length specs) top.cycles turn_values turns_all))
    ∙ ap (λ p. judged p (script_meant tree)) (sym (first_of-append each last)))

pub script_in-tied : (tree : Members) → script_in tree ≡ judged (first_of (places tree)) (script_meant tree)
script_in-tied tree =
    let track_values : Items = items_of (value_at key.Track tree) in
    let turn_values : Items = items_of (value_at key.Turns tree) in
    let f_top : Option ScriptFault = or_else (version_fault tree) (or_else (frames_fault tree) (or_else (normal_fault tree) (cycles_fault tree))) in
    let f_tracks : Option ScriptFault = entry_fault 0 key.Track (tables 1 most_tracks) (value_at key.Track tree) in
    let f_turns : Option ScriptFault = entry_fault 0 key.Turns texts_or_none (value_at key.Turns tree) in
    let f_parts : Option ScriptFault = first_of (bound limit.Product most_product (number_of 0 (value_at key.Cycles tree) * buffer_of tree) ∷ part_places tree) in
    behind (all_keys is_top_key tree) (fault.Unknown 0)
    (top_numbers tree >>= (λ top. track_items tree >>= (λ tables'. turn_items tree >>= (λ texts'. parts_in top tables' texts'))))
    (or_else (version_fault tree) (or_else (frames_fault tree) (or_else (normal_fault tree) (or_else (cycles_fault tree) (or_else f_tracks (or_else f_turns f_parts))))))
    (script_meant tree)
    (bind (top_numbers tree) f_top (or_else f_tracks (or_else f_turns f_parts)) (top_meant tree) (script_meant tree)
    (λ top. track_items tree >>= (λ tables'. turn_items tree >>= (λ texts'. parts_in top tables' texts')))
    (top-tied tree)
    (λ none. bind (track_items tree) f_tracks (or_else f_turns f_parts) track_values (script_meant tree)
    (λ tables'. turn_items tree >>= (λ texts'. parts_in (top_meant tree) tables' texts'))
    (tables-tied (value_at key.Track tree))
    (λ tracks_none. bind (turn_items tree) f_turns f_parts turn_values (script_meant tree)
    (λ texts'. parts_in (top_meant tree) track_values texts')
    (turns-tied (value_at key.Turns tree))
    (λ turns_none. parts-tied tree (tables-all (value_at key.Track tree) tracks_none) (turns-all (value_at key.Turns tree) turns_none))))
    ∙ ap (λ p. judged p (script_meant tree)) (or_else-four (version_fault tree) (frames_fault tree) (normal_fault tree) (cycles_fault tree) (or_else f_tracks (or_else f_turns f_parts))))
