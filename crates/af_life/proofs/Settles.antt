-- How many commands some looks settle.
use Rattle.std.proofs.Common.{◌≡◌, ℕ, ◌+◌, ◌≤◌, Bool, true, false, if◌then◌else◌, is_some, List, [], ◌∷◌, length, Option, arith}
use Rattle.af_life.proofs.Common.{CommandLook}
use Rattle.af_life.specs.declared.kept.TrackKept.{TrackKept}
use Rattle.af_life.specs.Obeys.{shows_command, is_shut, ended, must_wait, obeyed, after_look, goes_on, after_looks, commanded}

module _ (given : Option ℕ) (flush_seen : ℕ) where
  either_few : (b : Bool) (t u : TrackKept) (n : ℕ) → t.settled ≤ n → u.settled ≤ n → (if b then t else u).settled ≤ n
  either_few true t u n e f = e
  either_few false t u n e f = f

  -- a look settles one command at most
  pub settles_one : (look : CommandLook) (s : TrackKept) → (after_look given flush_seen look s).settled ≤ s.settled + 1
  unfolding after_look obeyed
  settles_one look s =
      either_few (shows_command look.seen) _ _ (s.settled + 1) (either_few (must_wait flush_seen look.code look.argument s.life) _ _ (s.settled + 1) (omega arith) (omega arith))
      (either_few (is_shut look.seen) (ended s) s (s.settled + 1) (omega arith) (omega arith))

  pub looks_settle : (looks : List CommandLook) (s : TrackKept) → (after_looks given flush_seen looks s).settled ≤ s.settled + length looks
  looks_settle [] s = omega arith
  looks_settle (look ∷ looks) s = let t : TrackKept = after_look given flush_seen look s in
      let one : t.settled ≤ s.settled + 1 = settles_one look s in
      let more : (after_looks given flush_seen looks t).settled ≤ t.settled + length looks = looks_settle looks t in
      either_few (goes_on look t) (after_looks given flush_seen looks t) t (s.settled + length (look ∷ looks)) (omega arith) (omega arith)

  pub commands_settle : (looks : List CommandLook) (s : TrackKept) → (commanded given flush_seen looks s).settled ≤ s.settled + length looks
  commands_settle looks s = either_few (is_some s.awaits) s (after_looks given flush_seen looks s) (s.settled + length looks) (omega arith) (looks_settle looks s)
