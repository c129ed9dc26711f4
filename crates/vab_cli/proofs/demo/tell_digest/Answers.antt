use Rattle.std.proofs.Common.{◌≡◌, ◌∙◌, ◌∷◌, [], ℕ, List, subst, arith}
use Rattle.std.proofs.Common.{rules}
use Rattle.vab_set.proofs.SetLaws.{base_short}
use Rattle.vab_model.specs.Commands.{Digest}
use Rattle.vab_update.specs.Install.{order, target_name}
use Rattle.vab_cli.specs.Acts.{DoesActs, command_act}
use Rattle.vab_cli.specs.Demo.{digest_front}
use Rattle.vab_cli.proofs.ActsWritten.{does_one}
use Rattle.vab_cli.proofs.demo.tell_digest.Goals as goal

pub full_name-full-requires-clause-short : goal.full_name-full-requires-clause-short
full_name-full-requires-clause-short g c =
    omega (arith, base_short c.args.image.now.name c.requires.image.name)

pub returns : goal.returns
returns g c =
    let image = c.args.image.now in
    let named : c.text-name.result.now ≡ target_name 0 image =
    c.text-name.ensures.value ∙ c.full_name-full.ensures in
    let front : c.as_slice.result.now ≡ digest_front image =
    c.as_slice.ensures.value ∙ (search rules) in
    let d = c.args.device in
    let old = c.args.port.now in
    let new = c.perform.new.port in
    let r = c.perform.result in
    let name : List ℕ = c.text-name.result.now in
    subst
    (λ (n : List ℕ).
    DoesActs g.P.Disk d (command_act (digest_front image) (Digest n) ∷ []) (order (Digest n) ∷ [])
    old new r)
    named
    (subst
    (λ (l : List ℕ).
    DoesActs g.P.Disk d (command_act l (Digest name) ∷ []) (order (Digest name) ∷ []) old new r)
    front
    (does_one g.P.Disk d (command_act c.as_slice.result.now (Digest name)) (order (Digest name))
    old new r c.perform.ensures.performs c.perform.ensures.writes))
