mod NeedExamples
mod PlansByHand
mod DeclaredExamples
mod ShapeExamples
