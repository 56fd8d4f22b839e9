-- Tracks that find their files one after the other have the files that belong to their numbers.
use Rattle.std.proofs.Common.{◌≡◌, ℕ, zero, suc, ◌<◌, List, [], ◌∷◌, length, sym, subst, arith}
use Rattle.af_commands.proofs.Common.{AreFilesFor, AreServed, Frame, HaveFiles, IsFileFor, TrackSpec}
use Rattle.af_session.specs.Rounds.{file_at, ops_at}
use Rattle.af_offline.specs.declared.load.Loaded.{Loaded}
use Rattle.af_offline.proofs.Loads.{served_count}

each_served : (tracks : List TrackSpec) (files : List (List Frame)) → AreServed tracks files → (i : ℕ) → i < length tracks → IsFileFor (ops_at (record { tracks = tracks; files = files }) i) (file_at (record { tracks = tracks; files = files }) i)
each_served [] [] all i lt = absurd (omega arith)
each_served [] (f ∷ files) all i lt = absurd all
each_served (t ∷ tracks) [] all i lt = absurd all
each_served (t ∷ tracks) (f ∷ files) all zero lt = record { enough = all.0.0; few = all.0.1 }
each_served (t ∷ tracks) (f ∷ files) all (suc i) lt = each_served tracks files all.1 i (omega arith)

have_files : (tracks : List TrackSpec) (files : List (List Frame)) → AreServed tracks files → HaveFiles (record { tracks = tracks; files = files })
have_files tracks files all = record { count = served_count tracks files all; each = each_served tracks files all }

-- what was loaded has the files that its tracks need
pub files_for : (l : Loaded) (files : List (List Frame)) → files ≡ l.files.items → AreFilesFor l → HaveFiles (record { tracks = l.script.tracks; files = files })
files_for l files is for = subst (λ (fs : List (List Frame)). HaveFiles (record { tracks = l.script.tracks; files = fs })) (sym is) (have_files l.script.tracks l.files.items for)
