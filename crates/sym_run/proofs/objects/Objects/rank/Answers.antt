use Rattle.std.proofs.Common.{◌≡◌, ℤ, Some, map, slice_get, sym, ◌∙◌, subst, arith, w64}
use Rattle.std.proofs.lemmas.Int.{to_z-of_z}
use Rattle.std.proofs.lemmas.List.{length-map}
use Rattle.std.proofs.lemmas.Option.{slice_get_within}
use Rattle.checked_memory.specs.Contents.{IsTouched, address_of}
use Rattle.sym_run.proofs.RankLaws.{rank_found, rank_missing}
use Rattle.sym_run.proofs.objects.Objects.rank.Goals as goal

pub returns-in-Some-clause-rank : goal.returns-in-Some-clause-rank
returns-in-Some-clause-rank c = λ p q. sym (rank_found c.args.self.now.memory.touched c.args.address c.in-Some.rank p q c.touched-count.ensures.apart
    (subst (λ (a : ℤ). slice_get (map address_of c.args.self.now.memory.touched) c.in-Some.rank ≡ Some a) (to_z-of_z w64 c.args.address c.ranges.address) c.in-Some.ensures))

pub returns-in-Some-clause-few : goal.returns-in-Some-clause-few
returns-in-Some-clause-few c =
    let within = slice_get_within (map address_of c.args.self.now.memory.touched) c.in-Some.rank _ c.in-Some.ensures in
    let long = length-map c.args.self.now.memory.touched address_of in
    omega (arith, within, long, c.touched-count.ensures.count, c.touched-count.ensures.few)

pub returns-in-None-clause-rank : goal.returns-in-None-clause-rank
returns-in-None-clause-rank c = λ p q. c.touched-count.ensures.count ∙ sym (rank_missing c.args.self.now.memory.touched c.args.address p q
    (subst (λ (a : ℤ). IsTouched a c.args.self.now.memory.touched → ⊥) (to_z-of_z w64 c.args.address c.ranges.address) c.in-None.ensures))
