-- The words that a round's looks take are the next of the course that the client sends.
use Rattle.std.proofs.Common.{◌≡◌, ℕ, suc, ◌*◌, if◌then◌else◌, Bool, true, false, List, [], ◌∷◌, ◌++◌, length, arith}
use Rattle.af_enough_law.proofs.Common.{CommandLook, shows_command, words_taken}

-- the words of some commands are two for each
pub words_even : (looks : List CommandLook) → (more : ℕ) × (length (words_taken looks) ≡ 2 * more)
words_even [] = (0, omega arith)
words_even (look ∷ looks) = by (shows_command look.seen) (words_even looks)
  where
    by : (b : Bool) → (more : ℕ) × (length (words_taken looks) ≡ 2 * more) → (more : ℕ) × (length ((if b then look.code ∷ look.argument ∷ [] else []) ++ words_taken looks) ≡ 2 * more)
    by true rest = (suc rest.0, (let r = rest.1 in omega arith))
    by false rest = rest
