mod Rounded
mod ReadBack
