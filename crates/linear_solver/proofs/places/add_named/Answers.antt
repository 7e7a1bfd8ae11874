use Rattle.std.proofs.Common.{◌≡◌, ◌∙◌, sym, ap, arith, ℕ, ◌+◌, ◌-◌, ◌<◌, ◌≤◌, List, drop, length, get_or, reverse, pos}
use Rattle.std.proofs.lemmas.List.{drop_more, drop_all}
use Rattle.cc_base.specs.declared.forms.Multiple.{Multiple}
use Rattle.cc_base.specs.Groups.{put, put_all, named}
use Rattle.linear_solver.proofs.Parting.{put_named}
use Rattle.linear_solver.proofs.places.add_named.Goals as goal

none_named : (l : List Multiple) (n : ℕ) (m : List ℕ) → length l ≤ n → m ≡ put_all (named (drop n l)) m
unfolding named put_all
none_named l n m h = sym (ap (λ (t : List Multiple). put_all (named t) m) (drop_all n l h))

more_named : (l : List Multiple) (n k : ℕ) (d : Multiple) (o p m : List ℕ) → n ≡ k + 1 → k < length l → p ≡ put (get_or l k d).place o → o ≡ put_all (named (drop n l)) m → p ≡ put_all (named (drop k l)) m
more_named l n k d o p m e h f g =
    f ∙ ap (put (get_or l k d).place) (g ∙ ap (λ (j : ℕ). put_all (named (drop j l)) m) e)
    ∙ sym (ap (λ (t : List Multiple). put_all (named t) m) (drop_more l k d h) ∙ put_named (get_or l k d) (drop (k + 1) l) m)

pub terms-init : goal.terms-init
terms-init c = record { within = omega arith; same = none_named c.args.terms.now _ (reverse c.args.list.now.items) (omega arith) }

pub terms-preserved : goal.terms-preserved
terms-preserved c =
    let d : Multiple = record { place = 0; coefficient = pos 0 } in
    record {
      within = omega arith;
      same = more_named c.args.terms.now c.terms.left (c.terms.left - 1) d (reverse c.terms.list.items) (reverse c.add_place.new.list.items) (reverse c.args.list.now.items) (omega arith) (omega arith) c.in_ok-add_place.ensures c.terms.invariant.same;
    }

pub returns : goal.returns
returns c = let e : c.terms.left ≡ 0 = omega arith in c.terms.invariant.same ∙ ap (λ (j : ℕ). put_all (named (drop j c.args.terms.now)) (reverse c.args.list.now.items)) e
