-- Hearings one behind another.
use Rattle.std.proofs.Common.{◌≡◌, ℕ, zero, suc, ◌<◌, ◌≤◌, inl, inr, List, [], length}
use Rattle.std.proofs.Common.{refl, ap, subst, sym, arith}
use Rattle.vab_disk.specs.Disk.{Hearing}
use Rattle.vab_disk.specs.Port.{heard_then}
use Rattle.vab_exchanges.specs.Hearing.{HearsWhere}
use Rattle.vab_exchanges.proofs.Listening.{hears_none, hears_one, hears_then}
use Rattle.vab_input.specs.HearsToEnd.{FindsSome, HearsToEnd, HearsWithin}

-- bytes came, so something was left
pub hears_some : (old new : List Hearing) (told left : List ℕ) (n : ℕ)
    → new ≡ heard_then old told left
    → 0 < n
    → n ≤ length left
    → HearsWhere FindsSome old new
hears_some old new told left n is some there =
    hears_one FindsSome old new told left is
    (λ none. let nothing : length left ≡ 0 = ap length none in
    omega (arith, some, there, nothing))

pub hears_end : (old new : List Hearing) (told left : List ℕ)
    → new ≡ heard_then old told left
    → left ≡ []
    → HearsToEnd old new
hears_end old new told left is nothing = record {
  before = old;
  some = hears_none FindsSome old;
  last = record { told = told; input_left = left };
  behind = is;
  end = nothing;
}

pub ends_then : (old mid new : List Hearing)
    → HearsWhere FindsSome old mid
    → HearsToEnd mid new
    → HearsToEnd old new
ends_then old mid new x y = record {
  before = y.before;
  some = hears_then FindsSome old mid y.before x y.some;
  last = y.last;
  behind = y.behind;
  end = y.end;
}

-- ---- not beyond the end

pub within_none : (old new : List Hearing) → new ≡ old → HearsWithin old new
within_none old new is = subst (HearsWithin old) (sym is) (inl (hears_none FindsSome old))

pub within_one : (old new : List Hearing) (told left : List ℕ) (n : ℕ)
    → new ≡ heard_then old told left
    → n ≤ length left
    → (n ≡ 0 → left ≡ [])
    → HearsWithin old new
within_one old new told left zero is there nothing =
    inr (hears_end old new told left is (nothing refl))
within_one old new told left (suc n) is there nothing =
    inl (hears_some old new told left (suc n) is (omega arith) there)

pub within_then : (old mid new : List Hearing)
    → HearsWhere FindsSome old mid
    → HearsWithin mid new
    → HearsWithin old new
within_then old mid new x (inl some) = inl (hears_then FindsSome old mid new x some)
within_then old mid new x (inr end) = inr (ends_then old mid new x end)
