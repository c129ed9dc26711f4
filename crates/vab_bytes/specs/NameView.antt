-- A name's value is made again from its text: the law that its model cites.
use Rattle.std.proofs.Common.{◌≡◌, ℕ, List, length, take, sym, ap, ◌∙◌}
use Rattle.vab_bytes.specs.declared.name.Name36.TheInside.{Inside}
use Rattle.vab_bytes.specs.Name.{name_field, HoldsName}

-- the fields of a name come back from its text
pub held_again : (n : Inside)
    → HoldsName n.bytes n.len
    → (let again : Inside =
    record { bytes = name_field (take n.len n.bytes); len = length (take n.len n.bytes) } in
    again
    ≡ n)
held_again n h =
    let with_bytes : List ℕ → Inside =
    λ b. record { bytes = b; len = length (take n.len n.bytes) } in
    let with_len : ℕ → Inside = λ k. record { bytes = n.bytes; len = k } in
    ap with_bytes (sym h.spelled) ∙ ap with_len h.text_len
