-- Sessions over one input with other numbers of turns between two packets: what they tell until a
-- packet comes that may show how far a merge is.
use Rattle.std.specs.Prelude.{◌≡◌, ℕ, Bool, true, false, List, [], ◌∷◌, Option, Result, Ok, map}
use Rattle.vab_model.specs.declared.state.Phase.{Phase}
use Rattle.vab_model.specs.declared.state.Phase.TheVariants.{Merging}
use Rattle.vab_model.specs.Commands.{Command, SetActive, Boot, Mark, Print, Digest}
use Rattle.vab_device.specs.Mounted.{Mounted}
use Rattle.vab_fbproto.specs.Requests.{Asked, Getvar, Do, MergeAll, Variable, SnapshotUpdateStatus}
use Rattle.vab_fbproto.specs.Requests.{request_of}
use Rattle.vab_fbproto.specs.declared.request.BadCommand.{BadCommand}
use Rattle.vab_exchanges.specs.Session.{Exchange}
use Rattle.vab_exchanges.specs.Items.{Kept, item_behind, items_of, output_of}
use Rattle.vab_session.specs.Responses.{machine}

-- All commands but a boot, a mark, the choice of a slot, and the bytes or the digest of an image.
abbrev pub is_of_update : Command → Bool
is_of_update (SetActive slot) = false
is_of_update Boot = false
is_of_update Mark = false
is_of_update (Print name) = false
is_of_update (Digest name) = false
is_of_update _ = true

abbrev pub is_status : Variable → Bool
is_status SnapshotUpdateStatus = true
is_status _ = false

-- The kinds of packets whose reply may show how far a merge is: the begin of an update, an edit, a
-- store, a flash, the end of an installation, a cancel, the begin of a merge, a merge, a wipe, and
-- the variable that says where an update stands.
abbrev pub may_show_a_merge : Result Asked BadCommand → Bool
may_show_a_merge (Ok (Do command)) = is_of_update command
may_show_a_merge (Ok MergeAll) = true
may_show_a_merge (Ok (Getvar variable)) = is_status variable
may_show_a_merge _ = false

abbrev pub ShowNothing : List Exchange → Type 0
ShowNothing [] = Unit {0}
ShowNothing (s ∷ ss) = (may_show_a_merge (request_of s.command) ≡ false) × ShowNothing ss

-- this holds where an update is being merged, and that where none is
abbrev pub IfMerging : Phase → (Then Else : Type 0) → Type 0
IfMerging (Merging target left) Then Else = Then
IfMerging _ Then Else = Else

-- From where an update is being merged, as behind the begin of a merge that is accepted, no packet
-- may show how far that is.
abbrev pub HidesIt : (turns : ℕ) → Kept Mounted → List Exchange → Type 0
HidesIt turns k [] = Unit {0}
HidesIt turns k (s ∷ ss) =
    IfMerging k.now.state.phase (ShowNothing (s ∷ ss))
    (HidesIt turns (item_behind (machine turns) k s).last ss)

-- Then a session tells the same with any other number of turns, reply for reply.
abbrev pub HidesTheMerge : Type 0
HidesTheMerge =
    (one other : ℕ) (k : Kept Mounted) (exchanges : List Exchange) (unfinished : Option (List ℕ))
    → HidesIt one k exchanges
    → (map (λ i. i.reply) (items_of (machine one) k exchanges unfinished)
    ≡ map (λ i. i.reply) (items_of (machine other) k exchanges unfinished))
    × (output_of (machine one) k exchanges unfinished
    ≡ output_of (machine other) k exchanges unfinished)
