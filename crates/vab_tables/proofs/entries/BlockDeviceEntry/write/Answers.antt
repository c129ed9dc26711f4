use Rattle.std.proofs.Common.{◌≡◌, List, ℕ, ◌++◌, append_assoc, refl, ◌∙◌}
use Rattle.vab_tables.specs.Entries.{device_bytes}
use Rattle.vab_tables.proofs.entries.BlockDeviceEntry.write.Goals as goal

chained : (o x1 x2 x3 x4 x5 x6 n1 n2 n3 n4 n5 n6 : List ℕ) → n1 ≡ o ++ x1 → n2 ≡ n1 ++ x2
    → n3 ≡ n2 ++ x3 → n4 ≡ n3 ++ x4 → n5 ≡ n4 ++ x5 → n6 ≡ n5 ++ x6
    → n6 ≡ o ++ (x1 ++ x2 ++ x3 ++ x4 ++ x5 ++ x6)
chained o x1 x2 x3 x4 x5 x6 n1 n2 n3 n4 n5 n6 e1 e2 e3 e4 e5 e6 =
    rw (e6, e5, e4, e3, e2, e1) (simp append_assoc)

pub returns : goal.returns
unfolding device_bytes
returns c =
    chained c.args.out.now.items c.to_le_bytes.result c.to_le_bytes-2.result c.to_le_bytes-3.result
    c.to_le_bytes-4.result c.to_field.result c.to_le_bytes-5.result
    _ _ _ _ _ _ c.in_ok-extend_from_slice.ensures.items c.in_ok-extend_from_slice-2.ensures.items
    c.in_ok-extend_from_slice-3.ensures.items c.in_ok-extend_from_slice-4.ensures.items
    c.in_ok-extend_from_slice-5.ensures.items c.in_ok-extend_from_slice-6.ensures.items
    ∙ rw (
      c.to_le_bytes.ensures,
      c.to_le_bytes-2.ensures,
      c.to_le_bytes-3.ensures,
      c.to_le_bytes-4.ensures,
      c.to_field.ensures,
      c.to_le_bytes-5.ensures,
    ) refl
