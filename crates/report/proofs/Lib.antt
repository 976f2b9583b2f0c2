pub mod PlanListing
