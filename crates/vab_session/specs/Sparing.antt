-- Which packets ask for a command that changes the source of an update: a merge, or a wipe.
use Rattle.std.specs.Prelude.{◌≡◌, ◌++◌, ℕ, Bool, true, false, List, [], ◌∷◌, Result, Ok, take}
use Rattle.std.specs.Prelude.{drop, codes}
use Rattle.std.specs.List.{flat_map}
use Rattle.vab_model.specs.Kinds.{changes_source}
use Rattle.vab_fbproto.specs.Requests.{Asked, Do, MergeAll}
use Rattle.vab_fbproto.specs.Requests.{request_of}
use Rattle.vab_fbproto.specs.declared.request.BadCommand.{BadCommand}
use Rattle.vab_exchanges.specs.Session.{Exchange, IsExchange, packet, spelled}

-- to begin a merge, to merge some blocks, or to merge all; or to wipe `super`
abbrev pub asks_source : Result Asked BadCommand → Bool
asks_source (Ok (Do command)) = changes_source command
asks_source (Ok MergeAll) = true
asks_source _ = false

abbrev pub AreExchanges : List Exchange → Type 0
AreExchanges [] = Unit {0}
AreExchanges (s ∷ ss) = IsExchange s × AreExchanges ss

-- No packet behind whole exchanges asks for a merge or a wipe.
abbrev pub AsksNoSource : List ℕ → Type 0
AsksNoSource bytes = (done : List Exchange)
    → (command after : List ℕ)
    → AreExchanges done
    → bytes ≡ flat_map spelled done ++ (packet command ++ after)
    → asks_source (request_of command) ≡ false

-- The same of a session of at most so many bytes, behind the hello; and no turn is made between
-- two packets.
abbrev pub SparesSource : (most turns : ℕ) → List ℕ → Type 0
SparesSource most turns input = AsksNoSource (drop 4 (take most input)) × (turns ≡ 0)

-- The greeting is told, none of these bytes' packets asks for a merge or a wipe, and no turn is
-- made between two packets.
abbrev pub IsPlain : (turns : ℕ) → (told bytes : List ℕ) → Type 0
IsPlain turns told bytes =
    ((before : List ℕ) × (told ≡ before ++ codes "FB01"))
    × AsksNoSource bytes
    × (turns ≡ 0)
