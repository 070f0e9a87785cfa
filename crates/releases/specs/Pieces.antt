-- The pieces of a fit, as they stand in their arrays.
use Rattle.std.specs.Prelude.{ℕ, List, take}
use Rattle.pooling.specs.declared.shares.Share.{Share}
use Rattle.releases.specs.declared.pieces.Pieces.{Pieces}

abbrev pub piece_shares : Pieces → List Share
piece_shares pieces = take pieces.count pieces.shares

-- the release of each
abbrev pub piece_releases : Pieces → List ℕ
piece_releases pieces = take pieces.count pieces.releases
