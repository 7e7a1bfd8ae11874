-- The laws of the search, from those of runs.
use Rattle.std.proofs.Common.{◌≡◌, ℕ, ◌<◌, ◌≤◌}
use Rattle.cc_base.specs.declared.inputs.Input.{Input}
use Rattle.cc_base.specs.Limits.{Limits, InRange}
use Rattle.cc_base.specs.Paths.{GoesOnFrom}
use Rattle.cc_model.specs.CheckedProgram.{core_of}
use Rattle.cc_model.specs.Conditions.{clean, events_of}
use Rattle.cc_model.specs.Core.{Program}
use Rattle.cc_model.specs.Exact.{Exact, Exhausts}
use Rattle.cc_model.specs.Graphs.{PointsToCells}
use Rattle.cc_model.specs.Runs.{IsInput, params_of, path_of, path_at}
use Rattle.cc_model.specs.Traced.{traced}
use Rattle.cc_laws.specs.LinearForms.{linear}
use Rattle.input_map.proofs.BaseInputs.{base_within, base_is_input}
use Rattle.search_base.specs.Setting.{column_in, Setting, layer_of}
use Rattle.run_laws.specs.Lawful.{Lawful}
use Rattle.search_dfs.specs.Laws.{Laws}
use Rattle.search_dfs.proofs.LayerLaws.{layer_laws}
use Rattle.search_dfs.proofs.RangeLaws.{in_range}

pub laws_of : (s : Setting) → PointsToCells (core_of s.checked).layouts (params_of (core_of s.checked)) → InRange s.limits
    → ((u : Input) → IsInput (core_of s.checked) s.limits u → Lawful (core_of s.checked) s.limits u)
    → ((p : Program) (b : Limits) (g h : Input) → GoesOnFrom (path_at p b h) (path_at p b g) → ⊥)
    → ((p : Program) (b : Limits) (h : Input) → path_of (traced linear p.layouts) (events_of linear p b h) ≡ path_at p b h)
    → ((p : Program) (b : Limits) (u : Input) (k : ℕ) → PointsToCells p.layouts (params_of p) → IsInput p b u → k ≤ clean (events_of linear p b u) → Exact linear p b u k)
    → ((p : Program) (b : Limits) (u : Input) (k : ℕ) → PointsToCells p.layouts (params_of p) → IsInput p b u → k < clean (events_of linear p b u) → Exhausts linear p b u k)
    → Laws (layer_of s)
unfolding layer_of
laws_of s points range lawful apart same exact exhausted =
    let p : Program = core_of s.checked in
    let b : Limits = s.limits in
    layer_laws linear p b (column_in (s.checked).sites) s.budget (record {
      base_in = base_is_input b range.numbers p.layouts (params_of p);
      no_path_begins = apart p b;
      path = same p b;
      exact = λ u k w le. exact p b u k points w le;
      exhausts = λ u k w lt. exhausted p b u k points w lt;
      in_range = λ u h wu wh a i. in_range p b points (base_within b range.numbers) u h wh (lawful u wu) a i;
    })
