-- Which proxies the observer may hold.
use Rattle.std.specs.Prelude.{◌≡◌, ℕ, List, Option, Some}
use Rattle.af_cblk.specs.Sides.{Made}
use Rattle.af_server.specs.Order.{ServerState}
use Rattle.af_link.specs.Names.{IsStreamOf}
use Rattle.af_link.specs.declared.names.StreamNames.{StreamNames}

-- a proxy belongs to a track by the names
abbrev pub stream_fits : StreamNames → ℕ → ServerState → Type 0
stream_fits names track s = IsStreamOf names.blocks track s

-- the key names these blocks
abbrev pub NamesBlocks : Option StreamNames → List Made → Type 0
NamesBlocks key blocks = (names : StreamNames) × (key ≡ Some names) × (names.blocks ≡ blocks)
