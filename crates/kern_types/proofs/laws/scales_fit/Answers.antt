use Rattle.kern_types.proofs.Scales.{expression_scales_fit, assigned_scales_fit}
use Rattle.kern_types.proofs.laws.scales_fit.Goals as goal

pub returns : goal.returns
returns c = record {
  expressions = expression_scales_fit c.parsed_kernels_keep_limits.ensures;
  assigned = assigned_scales_fit c.parsed_kernels_keep_limits.ensures;
}
