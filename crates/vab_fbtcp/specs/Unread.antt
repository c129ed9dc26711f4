-- What a framer shows.
use Rattle.std.specs.Prelude.{ℕ, List, ◌++◌, drop}
use Rattle.vab_fbtcp.specs.declared.event.Place.{Place}
use Rattle.vab_fbtcp.specs.declared.framer.Framer.{Framer}

-- where the stream stands
abbrev pub place_of : Framer → Place
place_of f = f.place

-- the bytes that have come and aren't taken yet
abbrev pub unread_of : Framer → List ℕ
unread_of f = f.held.items ++ drop f.at f.piece.items

-- the piece that was fed last
abbrev pub piece_of : Framer → List ℕ
piece_of f = f.piece.items
