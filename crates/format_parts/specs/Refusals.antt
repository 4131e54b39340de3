-- 01's number of each reason, and a check's answer as the verdict of spec_rules.
use Rattle.std.specs.Prelude.{ℕ, Result, Ok, Err}
use Rattle.spec_rules.specs.RefusalNumbers.{room_refusal, length_refusal, layout_refusal, no_clause_refusal, count_refusal, types_refusal, transparent_refusal, shape_refusal, text_refusal, misfit_refusal, name_twice_refusal, nodes_refusal, bindings_refusal, idle_refusal, panel_length_refusal, panel_layout_refusal, panel_shape_refusal, panel_text_refusal, panel_misfit_refusal, tree_refusal, stuck_refusal, no_text_refusal}
use Rattle.spec_rules.specs.SheetRefusals.{Verdict, accepted, refused}
use Rattle.format_parts.specs.declared.refusals.Reason.{Reason}
use Rattle.format_parts.specs.declared.refusals.Reason.TheVariants.{Room, Length, Layout, NoClause, Count, Types, Transparent, Shape, Text, Misfit, NameTwice, Nodes, Bindings, Idle, PanelLength, PanelLayout, PanelShape, PanelText, PanelMisfit, Tree, Stuck, NoText}
use Rattle.format_parts.specs.declared.refusals.Refusal.{Refusal}

abbrev pub number_of : Reason → ℕ
number_of Room = room_refusal
number_of Length = length_refusal
number_of Layout = layout_refusal
number_of NoClause = no_clause_refusal
number_of Count = count_refusal
number_of Types = types_refusal
number_of Transparent = transparent_refusal
number_of Shape = shape_refusal
number_of Text = text_refusal
number_of Misfit = misfit_refusal
number_of NameTwice = name_twice_refusal
number_of Nodes = nodes_refusal
number_of Bindings = bindings_refusal
number_of Idle = idle_refusal
number_of PanelLength = panel_length_refusal
number_of PanelLayout = panel_layout_refusal
number_of PanelShape = panel_shape_refusal
number_of PanelText = panel_text_refusal
number_of PanelMisfit = panel_misfit_refusal
number_of Tree = tree_refusal
number_of Stuck = stuck_refusal
number_of NoText = no_text_refusal

abbrev pub verdict_of : {A : Type 0} → Result A Refusal → Verdict
verdict_of (Ok x) = accepted
verdict_of (Err r) = refused (number_of r.reason) r.place
